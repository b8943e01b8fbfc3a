-- The number 16 stays unused: no refusal has it, neither of the log part nor of the joining call nor of the trace nor of the group part.
use mathlib.Core.Path.{◌≡◌}
use native.Mathlib.Omega.{arith}
use Rattle.records.proofs.Numbers as log
use Rattle.receivers.specs.declared.refusal.Refusal as receivers
use Rattle.receivers.specs.declared.refusal.Refusal.TheVariants as j
use Rattle.receivers.specs.Refusals as joins
use Rattle.trace.specs.declared.refusal.Refusal as trace
use Rattle.trace.specs.declared.refusal.Refusal.TheVariants as t
use Rattle.trace.specs.Refusals as traces
use Rattle.groups.specs.declared.refusal.Refusal.{Refusal}
use Rattle.groups.specs.declared.refusal.Refusal.TheVariants as r
use Rattle.groups.specs.Refusals.{number_of}

pub join-never-16 : (x : receivers.Refusal) → joins.number_of x ≡ 16 → ⊥
join-never-16 (j.Log x) e = log.never-16 x e
join-never-16 j.InvalidReceivers e = omega arith
join-never-16 j.DifferentShifts e = omega arith

pub trace-never-16 : (x : trace.Refusal) → traces.number_of x ≡ 16 → ⊥
trace-never-16 (t.Log x) e = log.never-16 x e
trace-never-16 t.InvalidStart e = omega arith

pub never-16 : (x : Refusal) → number_of x ≡ 16 → ⊥
never-16 (r.Log x) e = log.never-16 x e
never-16 r.InvalidSpan e = omega arith
never-16 r.ForeignQuery e = omega arith
never-16 r.InvalidParts e = omega arith
never-16 r.ThresholdOutOfRange e = omega arith
never-16 r.InvalidReview e = omega arith
never-16 r.QueryNotReviewed e = omega arith
