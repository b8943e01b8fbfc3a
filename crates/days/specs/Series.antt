-- Logs that lie end to end, each read into words of its own: what that answers, and what it leaves in the words.
use Rattle.std.specs.Prelude.{List, [], ◌∷◌, ◌++◌, ℕ, length, drop, Result}
use Rattle.records.specs.declared.record.Record.{Record}
use Rattle.records.specs.Outcomes.{Outcome, refused, success, outcome_of}
use Rattle.series.specs.Series.{parts, all_size, judge_series, Size, common_size}
use Rattle.days.specs.declared.refusal.SeriesRefusal.{SeriesRefusal}
use Rattle.days.specs.Refusals.{series_number, series_offset}
use Rattle.days.specs.Days.{day_of}

-- the days of logs, one after the other
unfoldable pub days_of : List (List Record) → List ℕ
days_of [] = []
days_of (rs ∷ rest) = day_of rs ++ days_of rest

-- reading a series: its answer, and the words that were lent
pub record SeriesRead : Type 0 where
  pub answer : Outcome Size
  pub words : List ℕ

unfoldable pub series_judged : Outcome (List (List Record)) → List ℕ → SeriesRead
series_judged (refused number offset) ws = record { answer = refused number offset; words = ws }
series_judged (success all) ws = record { answer = success (common_size all); words = days_of all ++ drop (all_size all) ws }

unfoldable pub read_series_of : List ℕ → List ℕ → ℕ → List ℕ → SeriesRead
read_series_of logs lengths room ws = series_judged (judge_series (parts logs lengths) room (length ws)) ws

abbrev pub series_outcome : Result Size SeriesRefusal → Outcome Size
series_outcome r = outcome_of series_number series_offset r
