-- What the parts of writing leave in the buffer. Private functions cite them; no promise rests on them.
use Rattle.std.specs.Prelude.{◌≡◌, List, ◌++◌, ℕ, ◌+◌, ◌*◌, ◌<◌, ◌≤◌, length, take, Option, Some, None}
use Rattle.records.specs.declared.record.Record.{Record}
use Rattle.records.specs.Limits.{max_contacts}
use Rattle.records.specs.Records.{encode_all}
use Rattle.days.specs.Days.{adjacent}
use Rattle.logs.specs.Tidy.{tidy_contacts, tidy_log}

-- where the record after so many contact records starts
abbrev pub offset_after : ℕ → ℕ
offset_after count = 4 + 6 * count

-- contact records are appended to so many that are in a buffer: they are counted, not too many, and encoded after the others
pub record Appended (cs : List Record) (count count' : ℕ) (buffer buffer' : List ℕ) : Type 0 where
  pub number : count' ≡ count + length cs
  pub few : count' ≤ max_contacts
  pub bytes : take (offset_after count') buffer' ≡ take (offset_after count) buffer ++ encode_all cs

-- they are appended and the number of them all is answered, or they would be too many
abbrev pub Appends : List Record → ℕ → Option ℕ → List ℕ → List ℕ → Type 0
Appends cs count (Some count') buffer buffer' = Appended cs count count' buffer buffer'
Appends cs count None buffer buffer' = max_contacts < count + length cs

-- the number of contact records of a day's tidy log, not too many, and the log, in memory that holds any log
pub record Encoded (n T : ℕ) (ws : List ℕ) (count : ℕ) (buffer : List ℕ) : Type 0 where
  pub number : count ≡ length (tidy_contacts n T (adjacent n ws))
  pub few : count ≤ max_contacts
  pub bytes : take (10 + 6 * count) buffer ≡ tidy_log n T (adjacent n ws)

-- the log is encoded and the number of its contact records is answered, or they would be too many
abbrev pub Encodes : ℕ → ℕ → List ℕ → Option ℕ → List ℕ → Type 0
Encodes n T ws (Some count) buffer = Encoded n T ws count buffer
Encodes n T ws None buffer = max_contacts < length (tidy_contacts n T (adjacent n ws))
