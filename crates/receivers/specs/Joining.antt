-- What the joining call answers and leaves in the words that were lent, for every input: request Four, "Several receivers".
use Rattle.std.specs.Prelude.{Bool, List, [], ◌∷◌, ◌++◌, ◌≡◌, ℕ, ◌+◌, ◌≤◌, eqb, leb, length, drop, replicate}
use Rattle.sets.specs.Bools.{◌and◌, isnt}
use Rattle.sets.specs.Sets.{digit}
use Rattle.records.specs.declared.record.Record.{Record}
use Rattle.records.specs.Outcomes.{Outcome, refused, success, refuse_if}
use Rattle.records.specs.Meaning.{in_contact}
use Rattle.days.specs.Days.{day_words}
use Rattle.series.specs.Series.{parts, badges_in, ticks_in, day_size, all_size, judge_series, Size, common_size}

-- "From 2 to 4 logs"
abbrev pub min_logs : ℕ
min_logs = 2

abbrev pub max_logs : ℕ
max_logs = 4

-- the sum of the lengths, a number of any size
unfoldable pub sum : List ℕ → ℕ
sum [] = 0
sum (l ∷ ls) = l + sum ls

-- 18: "number of logs or q outside its limits, or lengths that don't add up to the buffer"; "q from 1 to the number of logs". That this is not the
-- case, as a fact and as a test:
pub record Joinable (bytes : ℕ) (lengths : List ℕ) (q : ℕ) : Type 0 where
  pub several : min_logs ≤ length lengths
  pub few : length lengths ≤ max_logs
  pub some : 1 ≤ q
  pub most : q ≤ length lengths
  pub whole : sum lengths ≡ bytes

unfoldable pub joinable : ℕ → List ℕ → ℕ → Bool
joinable bytes lengths q =
    leb min_logs (length lengths) and leb (length lengths) max_logs and leb 1 q and leb q (length lengths) and eqb (sum lengths) bytes

-- "18 .. judged before any log"; then the logs in their order, 19 and 8, by days and work words lent
unfoldable pub judge_join : List ℕ → List ℕ → ℕ → ℕ → ℕ → Outcome (List (List Record))
judge_join logs lengths q words work = refuse_if (isnt (joinable (length logs) lengths q)) 18 0 (judge_series (parts logs lengths) words work)

-- "A contact counts if at least q receivers heard it .. a receiver that logs it twice counts once." (The field's term is quorum.)
unfoldable pub heard_by : List (List Record) → ℕ → ℕ → ℕ → ℕ
heard_by [] t u v = 0
heard_by (rs ∷ rest) t u v = digit (in_contact rs t u v) + heard_by rest t u v

unfoldable pub quorum : ℕ → List (List Record) → ℕ → ℕ → ℕ → Bool
quorum q logs t u v = leb q (heard_by logs t u v)

-- the words of the joined day
unfoldable pub joined_day : ℕ → List (List Record) → List ℕ
joined_day q logs = day_words (badges_in logs) (ticks_in logs) (quorum q logs)

-- The call's answer, the day words and the work words. "The result is day words, with n and T; the first n×T work words for each log .. end as zero on
-- success and unchanged on refusal, and work words beyond them are never touched."
pub record Join : Type 0 where
  pub answer : Outcome Size
  pub words : List ℕ
  pub work : List ℕ

unfoldable pub join_judged : Outcome (List (List Record)) → ℕ → List ℕ → List ℕ → Join
join_judged (refused number offset) q words work = record { answer = refused number offset; words = words; work = work }
join_judged (success all) q words work =
    record {
      answer = success (common_size all);
      words = joined_day q all ++ drop (day_size all) words;
      work = replicate (all_size all) 0 ++ drop (all_size all) work;
    }

unfoldable pub join_of : List ℕ → List ℕ → ℕ → List ℕ → List ℕ → Join
join_of logs lengths q words work = join_judged (judge_join logs lengths q (length words) (length work)) q words work
