-- What writing promises, over any call that takes n, T, words and a buffer.
use Rattle.std.specs.Prelude.{List, ◌++◌, ◌≡◌, ℕ, ◌≤◌, ◌<◌, length, take, drop}
use Rattle.sets.specs.Sets.{In}
use Rattle.sets.specs.Words.{Words}
use Rattle.records.specs.declared.record.Record.{Record}
use Rattle.records.specs.Limits.{max_contacts, words_for}
use Rattle.records.specs.Records.{encode_all}
use Rattle.records.specs.Outcomes.{refused, success}
use Rattle.records.specs.Logs.{log_records}
use Rattle.days.specs.Days.{neighbours, LentDay}
use Rattle.days.specs.Calls.{Read}
use Rattle.logs.specs.Tidy.{IsTidy}
use Rattle.logs.specs.Buffers.{Delivered}

-- words of which the first 2×n×T are a day, and the unbroken runs of its pairs, in order
pub record HasRuns (n T : ℕ) (ws : List ℕ) (runs : List Record) : Type 0 where
  pub lent : LentDay n T ws
  pub tidy : IsTidy n T (λ t u v. In (neighbours n ws t u) v) runs

-- the bytes of a log of these contact records
abbrev pub log_bytes : ℕ → ℕ → List Record → List ℕ
log_bytes n T cts = encode_all (log_records n T cts)

-- A call that writes every day as the log of its runs:
pub record Writes (read : List ℕ → List ℕ → Read) (write : ℕ → ℕ → List ℕ → List ℕ → Delivered) : Type 0 where
  -- lent a buffer of the log's length or more, it succeeds; with a shorter one it is refused by 9
  pub succeeds : (n T : ℕ) (ws buffer : List ℕ) (runs : List Record) → HasRuns n T ws runs → length runs ≤ max_contacts → length (log_bytes n T runs) ≤ length buffer
      → write n T ws buffer ≡ record { answer = success (length (log_bytes n T runs)); buffer = log_bytes n T runs ++ drop (length (log_bytes n T runs)) buffer }
  pub measures : (n T : ℕ) (ws buffer : List ℕ) (runs : List Record) → HasRuns n T ws runs → length runs ≤ max_contacts → length buffer < length (log_bytes n T runs)
      → write n T ws buffer ≡ record { answer = refused 9 0; buffer = buffer }
  -- more than 8,000 runs are refused by 15, whatever the buffer
  pub many : (n T : ℕ) (ws buffer : List ℕ) (runs : List Record) → HasRuns n T ws runs → max_contacts < length runs
      → write n T ws buffer ≡ record { answer = refused 15 0; buffer = buffer }
  -- reading what was written gives the day back, in words, each of which is below 2 ^ 64
  pub back : (n T : ℕ) (ws lent : List ℕ) (runs : List Record) → HasRuns n T ws runs → Words ws → length runs ≤ max_contacts → words_for n T ≤ length lent
      → read (log_bytes n T runs) lent
      ≡ record { answer = success (record { badges = n; ticks = T; contacts = length runs }); words = take (words_for n T) ws ++ drop (words_for n T) lent }
