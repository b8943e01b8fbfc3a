-- Which of the papers' outcomes each answer of the joining call is.
use Rattle.std.specs.Prelude.{ℕ, Result}
use Rattle.records.specs.Outcomes as log
use Rattle.records.specs.Outcomes.{Outcome, outcome_of}
use Rattle.series.specs.Series.{Size}
use Rattle.receivers.specs.declared.refusal.Refusal.{Refusal}
use Rattle.receivers.specs.declared.refusal.Refusal.TheVariants as r
use Rattle.days.specs.declared.refusal.SeriesRefusal.{SeriesRefusal}
use Rattle.days.specs.declared.refusal.SeriesRefusal.TheVariants as s

-- the number of each case: the log part's own, 18 and 19
abbrev pub number_of : Refusal → ℕ
number_of (r.Log x) = log.number_of x
number_of r.InvalidReceivers = 18
number_of r.DifferentShifts = 19

-- its byte offset, from the start of the buffer: 0 for 18 and 19
abbrev pub offset_of : Refusal → ℕ
offset_of (r.Log x) = log.offset_of x
offset_of r.InvalidReceivers = 0
offset_of r.DifferentShifts = 0

-- what a refusal of the series is to the call
abbrev pub of_series : SeriesRefusal → Refusal
of_series (s.Log x) = r.Log x
of_series s.DifferentSizes = r.DifferentShifts

abbrev pub joined_outcome : Result Size Refusal → Outcome Size
joined_outcome x = outcome_of number_of offset_of x
