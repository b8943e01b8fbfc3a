-- `report_day` meets its contract: thresholds out of range are refused, and else the report of the groups that meet them is delivered.
use mathlib.Core.Path.{sym, ap, ◌∙◌}
use mathlib.Core.List.{List}
use Prim.Native.Nat.{ℕ}
use native.Mathlib.Omega.{arith}
use Rattle.sets.specs.Members.{members}
use Rattle.records.specs.Outcomes.{Outcome}
use Rattle.logs.specs.Buffers.{deliver}
use Rattle.logs.proofs.Delivering.{leaves-refused}
use Rattle.thresholds.proofs.Enough.{ranges-of}
use Rattle.spans.proofs.Judging.{judged-range, judged-report}
use Rattle.groups.proofs.reporting.report_day.Goals as goal
use Rattle.groups.proofs.reporting.report_day.Goals.{After-report_groups, Else-not-in_range}

pub returns-then-not-in_range : goal.returns-then-not-in_range
returns-then-not-in_range c =
    let a = c.args in
    let p = leaves-refused a.buffer.now (judged-range a.badges a.ticks a.words.now (members a.review) a.least (sym c.in_range.ensures ∙ c.if-not-in_range.true)) in
    record { answer = p.0; leaves = p.1 }

pub report_groups-requires : goal.report_groups-requires
report_groups-requires c =
    let r = (goal.at.report_groups-requires c).Else-not-in_range in
    let range = ranges-of c.args.least (sym r.in_range.ensures ∙ r.if-not-in_range.false) in
    omega (arith, range.members_low)

pub returns : goal.returns
returns c =
    let g = (goal.at.returns c).After-report_groups in
    let a = c.args in
    let d = g.report_groups.ensures in
    let e = sym (judged-report a.badges a.ticks a.words.now (members a.review) a.least (sym c.in_range.ensures ∙ c.if-not-in_range.false)) in
    record { answer = d.answer ∙ ap (λ (o : Outcome (List ℕ)). (deliver o a.buffer.now).answer) e; leaves = d.leaves ∙ ap (λ (o : Outcome (List ℕ)). (deliver o a.buffer.now).buffer) e }
