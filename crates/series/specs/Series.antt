-- Logs of several receivers that lie end to end in one buffer: how they are judged, and what n and T they have.
use Rattle.std.specs.Prelude.{Bool, true, ◌≡◌, ℕ, ◌+◌, ◌*◌, eqb, ltb, length, take, drop}
use mathlib.Core.List.{List, [], ◌∷◌, Memᴰ}
use Rattle.sets.specs.Bools.{◌and◌, ◌or◌, isnt}
use Rattle.records.specs.declared.record.Record.{Record}
use Rattle.records.specs.Limits.{words_for}
use Rattle.records.specs.Outcomes.{Outcome, success, refuse_if, and_then}
use Rattle.records.specs.Judging.{start, judge_from}
use Rattle.records.specs.Meaning.{badges_of, ticks_of}
use Rattle.series.specs.declared.Size as declared

-- "logs .. lie end to end in one buffer, with a lent list of their lengths"
unfoldable pub parts : List ℕ → List ℕ → List (List ℕ)
parts logs [] = []
parts logs (l ∷ ls) = take l logs ∷ parts (drop l logs) ls

-- "Logs are judged in their order. Offsets count from the start of the buffer." So many bytes of it come before the first of these logs.
unfoldable pub judge_logs : ℕ → List (List ℕ) → Outcome (List (List Record))
judge_logs at [] = success []
judge_logs at (log ∷ logs) =
    and_then (judge_from (start at) log) (λ rs.
    and_then (judge_logs (at + length log) logs) (λ rest.
    success (rs ∷ rest)))

-- n and T of the first log
unfoldable pub badges_in : List (List Record) → ℕ
badges_in [] = 0
badges_in (rs ∷ rest) = badges_of rs

unfoldable pub ticks_in : List (List Record) → ℕ
ticks_in [] = 0
ticks_in (rs ∷ rest) = ticks_of rs

-- every log has this n and this T, as a fact and as a test
pub record Sized (n T : ℕ) (rs : List Record) : Type 0 where
  pub badges : badges_of rs ≡ n
  pub ticks : ticks_of rs ≡ T

abbrev pub AllSized : ℕ → ℕ → List (List Record) → Type 0
AllSized n T all = (rs : List Record) → Memᴰ rs all → Sized n T rs

unfoldable pub have_size : ℕ → ℕ → List (List Record) → Bool
have_size n T [] = true
have_size n T (rs ∷ rest) = eqb (badges_of rs) n and eqb (ticks_of rs) T and have_size n T rest

-- how many words the day of the first log takes, and how many the days of all of them
abbrev pub day_size : List (List Record) → ℕ
day_size logs = words_for (badges_in logs) (ticks_in logs)

abbrev pub all_size : List (List Record) → ℕ
all_size logs = length logs * day_size logs

-- "19, n or T differs from the first log, judged after all logs pass and before 8": and 8 where there is less room than for one day, or where there are
-- fewer words than for a day of each log
unfoldable pub judge_series : List (List ℕ) → ℕ → ℕ → Outcome (List (List Record))
judge_series logs room words =
    and_then (judge_logs 0 logs) (λ all.
    refuse_if (isnt (have_size (badges_in all) (ticks_in all) all)) 19 0
    (refuse_if (ltb room (day_size all) or ltb words (all_size all)) 8 0
    (success all)))

-- n and T, which all logs have
abbrev pub Size : Type 0
Size = declared.Size

unfoldable pub common_size : List (List Record) → Size
common_size logs = record { badges = badges_in logs; ticks = ticks_in logs }
