-- Why reading a series refuses, in document 01's terms: what refuses one log, or 19 where n or T differs.
use Rattle.std.specs.Prelude.{ℕ}
use Rattle.records.specs.Outcomes.{number_of, offset_of}
use Rattle.days.specs.declared.refusal.SeriesRefusal.{SeriesRefusal}
use Rattle.days.specs.declared.refusal.SeriesRefusal.TheVariants as r

abbrev pub series_number : SeriesRefusal → ℕ
series_number (r.Log x) = number_of x
series_number r.DifferentSizes = 19

abbrev pub series_offset : SeriesRefusal → ℕ
series_offset (r.Log x) = offset_of x
series_offset r.DifferentSizes = 0
