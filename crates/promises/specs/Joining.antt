-- What joining promises, over any call that takes logs, their lengths, a quorum, day words and work words, and leaves an answer and words.
use mathlib.Core.List.{List, [], ◌∷◌, map, flatten}
use Rattle.std.specs.Prelude.{◌⊎◌, ◌≡◌, ℕ, zero, suc, ◌*◌, ◌≤◌, ◌<◌, length, take, drop, replicate}
use Rattle.records.specs.declared.record.Record.{Record}
use Rattle.records.specs.Limits.{words_for}
use Rattle.records.specs.Outcomes.{refused, success}
use Rattle.records.specs.Logs.{IsLog, Met}
use Rattle.series.specs.Series.{parts, judge_logs, badges_in, ticks_in, AllSized, day_size, all_size}
use Rattle.receivers.specs.Joining.{min_logs, max_logs, Joinable, Join}
use Rattle.promises.specs.Reading.{HoldsDay}

-- logs of one n and T, each with its contact records
pub data AreLogs (n T : ℕ) : List (List ℕ) → List (List Record) → Type 0 where
  none : AreLogs n T [] []
  more : {log : List ℕ} {cts : List Record} {logs : List (List ℕ)} {all : List (List Record)}
      → IsLog log n T cts → AreLogs n T logs all → AreLogs n T (log ∷ logs) (cts ∷ all)

-- at least q elements of a list have a property, each counted once
pub data AtLeast {A : Type 0} (P : A → Type 0) : ℕ → List A → Type 0 where
  enough : {xs : List A} → AtLeast P zero xs
  counted : {q : ℕ} {x : A} {xs : List A} → P x → AtLeast P q xs → AtLeast P (suc q) (x ∷ xs)
  passed : {q : ℕ} {x : A} {xs : List A} → AtLeast P q xs → AtLeast P q (x ∷ xs)

-- at least q of the logs have u and v in contact in tick t
abbrev pub MetBy : ℕ → List (List Record) → ℕ → ℕ → ℕ → Type 0
MetBy q all t u v = AtLeast (λ cts. Met cts t u v) q all

-- From 2 to 4 logs of one n and T that a quorum of them is asked of, lent 2×n×T day words or more and as many work words for each log.
pub record JoinAsked (n T q : ℕ) (logs : List (List ℕ)) (all : List (List Record)) (words work : List ℕ) : Type 0 where
  pub are : AreLogs n T logs all
  pub several : min_logs ≤ length logs
  pub few : length logs ≤ max_logs
  pub some : 1 ≤ q
  pub most : q ≤ length logs
  pub room : words_for n T ≤ length words
  pub work_room : length logs * words_for n T ≤ length work

-- work words that are left zero up to a count, and as they were lent from there on
pub record Cleared (count : ℕ) (lent work : List ℕ) : Type 0 where
  pub zeros : take count work ≡ replicate count 0
  pub keeps : drop count work ≡ drop count lent
  pub long : length work ≡ length lent

-- What a call leaves that has joined logs of these contacts: it answers n and T, the words hold the day of the contacts that at least q of the
-- logs have, and 2×n×T work words for each log are zero.
pub record HasJoined (n T q : ℕ) (all : List (List Record)) (words work : List ℕ) (left : Join) : Type 0 where
  pub answers : left.answer ≡ success (record { badges = n; ticks = T })
  pub day : HoldsDay n T (MetBy q all) words left.words
  pub cleared : Cleared (length all * words_for n T) work left.work

-- every log has the n and T of the first
abbrev pub OneSize : List (List Record) → Type 0
OneSize all = AllSized (badges_in all) (ticks_in all) all

-- The refusals of a join in their order: 18; that of the first log that is refused; "19, n or T differs from the first log, judged after all logs
-- pass and before 8"; 8 where there are fewer day words than n×T, or fewer work words than that for each log. So many of both are lent.
pub data JoinRefusal (logs lengths : List ℕ) (q words work : ℕ) : ℕ → ℕ → Type 0 where
  by_18 : (Joinable (length logs) lengths q → ⊥) → JoinRefusal logs lengths q words work 18 0
  by_log : {number offset : ℕ} → Joinable (length logs) lengths q → judge_logs 0 (parts logs lengths) ≡ refused number offset → JoinRefusal logs lengths q words work number offset
  by_19 : {all : List (List Record)} → Joinable (length logs) lengths q → judge_logs 0 (parts logs lengths) ≡ success all → (OneSize all → ⊥) → JoinRefusal logs lengths q words work 19 0
  by_8 : {all : List (List Record)} → Joinable (length logs) lengths q → judge_logs 0 (parts logs lengths) ≡ success all → OneSize all
      → (words < day_size all) ⊎ (work < all_size all) → JoinRefusal logs lengths q words work 8 0

-- A call that joins logs:
pub record Joins (call : List ℕ → List ℕ → ℕ → List ℕ → List ℕ → Join) : Type 0 where
  -- lent enough, it succeeds
  pub succeeds : (n T q : ℕ) (logs : List (List ℕ)) (all : List (List Record)) (words work : List ℕ) → JoinAsked n T q logs all words work
      → HasJoined n T q all words work (call (flatten logs) (map length logs) q words work)
  -- where there is cause to refuse, it does, and leaves every word as it was lent
  pub refuses : (logs lengths : List ℕ) (q : ℕ) (words work : List ℕ) (number offset : ℕ) → JoinRefusal logs lengths q (length words) (length work) number offset
      → call logs lengths q words work ≡ record { answer = refused number offset; words = words; work = work }
