-- What tidying promises: demand 2 on logs. It speaks of any call that takes a log, work words and a buffer, and of the bytes that the call
-- is to make of each log.
use Rattle.std.specs.Prelude.{List, [], ◌++◌, ◌↔◌, ◌≡◌, ℕ, ◌≤◌, ◌<◌, length, drop}
use Rattle.records.specs.declared.record.Record.{Record}
use Rattle.records.specs.Limits.{words_for}
use Rattle.records.specs.Outcomes.{Outcome, refused, success}
use Rattle.records.specs.Judging.{judge}
use Rattle.records.specs.Meaning.{badges_of, ticks_of, in_contact}
use Rattle.records.specs.Logs.{IsLog, Met}
use Rattle.days.specs.Calls.{Read}
use Rattle.logs.specs.Tidy.{IsTidy, tidy_log}
use Rattle.logs.specs.Calls.{Tidied}
use Rattle.promises.specs.Reading.{HoldsDay}

-- "A log means its badge count, its tick count and which pairs were in contact in which ticks."
pub record SameMeaning (n T : ℕ) (cts : List Record) (n' T' : ℕ) (cts' : List Record) : Type 0 where
  pub badges : n ≡ n'
  pub ticks : T ≡ T'
  pub contacts : (t u v : ℕ) → Met cts t u v ↔ Met cts' t u v

-- What a call leaves that has tidied a log to these bytes: it answers how many there are; the buffer has them, and after them what it
-- had; the work words hold the day.
pub record HasTidied (n T : ℕ) (cts : List Record) (bytes work buffer : List ℕ) (left : Tidied) : Type 0 where
  pub answers : left.answer ≡ success (length bytes)
  pub writes : left.buffer ≡ bytes ++ drop (length bytes) buffer
  pub day : HoldsDay n T (Met cts) work left.words

-- What a call leaves whose buffer is too short: 9, the buffer as it was, and the day in the work words.
pub record FoundShort (n T : ℕ) (cts : List Record) (work buffer : List ℕ) (left : Tidied) : Type 0 where
  pub answers : left.answer ≡ refused 9 0
  pub writes : left.buffer ≡ buffer
  pub day : HoldsDay n T (Met cts) work left.words

-- What a call leaves that has read bytes which say the same as a log: n and T, and the words that reading the log itself leaves, in which
-- just the log's pairs are in contact.
pub record Recovers (read : List ℕ → List ℕ → Read) (n T : ℕ) (cts : List Record) (log bytes lent : List ℕ) : Type 0 where
  pub contacts : ℕ
  pub answers : (read bytes lent).answer ≡ success (record { badges = n; ticks = T; contacts = contacts })
  pub day : HoldsDay n T (Met cts) lent (read bytes lent).words
  pub same : (read bytes lent).words ≡ (read log lent).words

-- The tidy log of a log: a log of the unbroken runs of its pairs, in order; no more contact records than came in.
pub record IsTidied (n T : ℕ) (cts : List Record) (bytes : List ℕ) : Type 0 where
  pub runs : List Record
  pub log : IsLog bytes n T runs
  pub tidy : IsTidy n T (Met cts) runs
  pub fewer : length runs ≤ length cts

-- The refusals of tidy, by number and offset, in their order, "log, 8, 9": that of the log; 8 where the log is accepted and there are too few
-- words; 9 where it is accepted, there are words enough, and the buffer is shorter than the tidy log.
pub data TidyRefusal (log work buffer tidied : List ℕ) : ℕ → ℕ → Type 0 where
  by_log : {number offset : ℕ} → judge log ≡ refused number offset → TidyRefusal log work buffer tidied number offset
  by_8 : {rs : List Record} → judge log ≡ success rs → length work < words_for (badges_of rs) (ticks_of rs) → TidyRefusal log work buffer tidied 8 0
  by_9 : {rs : List Record} → judge log ≡ success rs → words_for (badges_of rs) (ticks_of rs) ≤ length work → length buffer < length tidied → TidyRefusal log work buffer tidied 9 0

-- A call that tidies every log, making these bytes of each:
pub record Tidies (read : List ℕ → List ℕ → Read) (tidy : List ℕ → List ℕ → List ℕ → Tidied) (tidied : List ℕ → List ℕ) : Type 0 where
  -- lent 2×n×T words or more and a buffer of the tidy length or more, it succeeds; with a shorter buffer it is refused by 9
  pub succeeds : (log work buffer : List ℕ) (n T : ℕ) (cts : List Record) → IsLog log n T cts → words_for n T ≤ length work
      → length (tidied log) ≤ length buffer → HasTidied n T cts (tidied log) work buffer (tidy log work buffer)
  pub measures : (log work buffer : List ℕ) (n T : ℕ) (cts : List Record) → IsLog log n T cts → words_for n T ≤ length work
      → length buffer < length (tidied log) → FoundShort n T cts work buffer (tidy log work buffer)
  -- whatever it is lent, it gives no other refusal
  pub refuses : (log work buffer : List ℕ) (number offset : ℕ) → (tidy log work buffer).answer ≡ refused number offset
      → TidyRefusal log work buffer (tidied log) number offset
  -- "two accepted logs tidy to equal bytes exactly when they mean the same"
  pub decides : (log : List ℕ) (n T : ℕ) (cts : List Record) (log' : List ℕ) (n' T' : ℕ) (cts' : List Record) → IsLog log n T cts → IsLog log' n' T' cts'
      → (tidied log ≡ tidied log') ↔ SameMeaning n T cts n' T' cts'
  -- "reading a tidied log recovers that meaning"
  pub recovers : (log lent : List ℕ) (n T : ℕ) (cts : List Record) → IsLog log n T cts → words_for n T ≤ length lent
      → Recovers read n T cts log (tidied log) lent
  -- a tidied log is a log within the limits, in the tidy form, and tidying it again changes nothing
  pub form : (log : List ℕ) (n T : ℕ) (cts : List Record) → IsLog log n T cts → IsTidied n T cts (tidied log)
  pub again : (log : List ℕ) (n T : ℕ) (cts : List Record) → IsLog log n T cts → tidied (tidied log) ≡ tidied log

-- the bytes that tidy makes of an accepted log
unfoldable pub tidied_judged : Outcome (List Record) → List ℕ
tidied_judged (refused number offset) = []
tidied_judged (success rs) = tidy_log (badges_of rs) (ticks_of rs) (in_contact rs)

unfoldable pub tidied_of : List ℕ → List ℕ
tidied_of log = tidied_judged (judge log)
