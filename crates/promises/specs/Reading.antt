-- What reading promises, over any call that takes a log and lent words and leaves an answer and words.
use Rattle.std.specs.Prelude.{List, ◌↔◌, ◌≡◌, ℕ, ◌≤◌, ◌<◌, length, take, drop}
use Rattle.sets.specs.Sets.{In}
use Rattle.sets.specs.Words.{Words}
use Rattle.records.specs.declared.record.Record.{Record}
use Rattle.records.specs.Limits.{words_for}
use Rattle.records.specs.Outcomes.{success}
use Rattle.records.specs.Logs.{IsLog, Met}
use Rattle.days.specs.Days.{neighbours}
use Rattle.days.specs.Calls.{Read}

-- Words that hold a day of contacts: the set of u in tick t has v exactly when u and v are in contact in tick t; each of the day's words is below 2 ^ 64,
-- and the words after these are as they were lent.
pub record HoldsDay (n T : ℕ) (InContact : ℕ → ℕ → ℕ → Type 0) (lent words : List ℕ) : Type 0 where
  pub marks : (t u v : ℕ) → t < T → u < n → In (neighbours n words t u) v ↔ InContact t u v
  pub fit : Words (take (words_for n T) words)
  pub keeps : drop (words_for n T) words ≡ drop (words_for n T) lent
  pub long : length words ≡ length lent

-- What a call leaves that has read the log of these contacts into words that were lent: it answers the log's n, T and number of contact
-- records, and the words hold the day.
pub record HasRead (n T : ℕ) (cts : List Record) (lent : List ℕ) (left : Read) : Type 0 where
  pub answers : left.answer ≡ success (record { badges = n; ticks = T; contacts = length cts })
  pub day : HoldsDay n T (Met cts) lent left.words

-- a call that reads every log, lent 2×n×T words or more
abbrev pub Reads : (List ℕ → List ℕ → Read) → Type 0
Reads call = (log lent : List ℕ) (n T : ℕ) (cts : List Record) → IsLog log n T cts → words_for n T ≤ length lent → HasRead n T cts lent (call log lent)
