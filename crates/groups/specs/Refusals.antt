-- Which of document 01's outcomes each answer of the group part is.
use Rattle.std.specs.Prelude.{ℕ, Result}
use Rattle.records.specs.Outcomes as log
use Rattle.records.specs.Outcomes.{Outcome, outcome_of}
use Rattle.groups.specs.declared.refusal.Refusal.{Refusal}
use Rattle.groups.specs.declared.refusal.Refusal.TheVariants as r

-- the number of each case: the log part's own, 12 to 14, 17, 20 and 21
abbrev pub number_of : Refusal → ℕ
number_of (r.Log x) = log.number_of x
number_of r.InvalidSpan = 12
number_of r.ForeignQuery = 13
number_of r.InvalidParts = 14
number_of r.ThresholdOutOfRange = 17
number_of r.InvalidReview = 20
number_of r.QueryNotReviewed = 21

-- its byte offset: 0 for those that are not the log part's
abbrev pub offset_of : Refusal → ℕ
offset_of (r.Log x) = log.offset_of x
offset_of r.InvalidSpan = 0
offset_of r.ForeignQuery = 0
offset_of r.InvalidParts = 0
offset_of r.ThresholdOutOfRange = 0
offset_of r.InvalidReview = 0
offset_of r.QueryNotReviewed = 0

-- what judging the words and the reviewed set comes to
abbrev pub judged_outcome : Result (Unit {0}) Refusal → Outcome (Unit {0})
judged_outcome r = outcome_of number_of offset_of r

-- what a call that fills a result buffer answers
abbrev pub written_outcome : Result ℕ Refusal → Outcome ℕ
written_outcome r = outcome_of number_of offset_of r
