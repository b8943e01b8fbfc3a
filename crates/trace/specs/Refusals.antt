-- Which of the papers' outcomes each answer of the trace is.
use Rattle.std.specs.Prelude.{ℕ, Result}
use Rattle.records.specs.Outcomes as log
use Rattle.records.specs.Outcomes.{Outcome, outcome_of}
use Rattle.trace.specs.declared.refusal.Refusal.{Refusal}
use Rattle.trace.specs.declared.refusal.Refusal.TheVariants as r

-- the number of each case: the log part's own, and 22
abbrev pub number_of : Refusal → ℕ
number_of (r.Log x) = log.number_of x
number_of r.InvalidStart = 22

-- its byte offset: 0 for 22
abbrev pub offset_of : Refusal → ℕ
offset_of (r.Log x) = log.offset_of x
offset_of r.InvalidStart = 0

-- what the call answers
abbrev pub written_outcome : Result ℕ Refusal → Outcome ℕ
written_outcome r = outcome_of number_of offset_of r
