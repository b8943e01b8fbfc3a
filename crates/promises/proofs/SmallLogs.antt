-- Logs of two badges and one tick, by which substitutes are refuted: the contact 0–1 not given, given once, given twice.
use mathlib.Core.Path.{◌≡◌, refl}
use mathlib.Core.List.Memᴰ
use mathlib.Core.List.{List, [], ◌∷◌}
use Prim.Native.Nat.{ℕ, ◌≤◌}
use native.Mathlib.Omega.{arith}
use lib.ListN.{length, replicate}
use Rattle.sets.specs.Bools.{◌and◌, ◌or◌, isnt}
use Rattle.records.specs.declared.record.Record.{Record}
use Rattle.records.specs.declared.record.Record.TheVariants.{Contact}
use Rattle.records.specs.Limits.{max_contacts, within_limits, words_for}
use Rattle.records.specs.Records.{encode_all}
use Rattle.records.specs.Judging.{valid_contact}
use Rattle.records.specs.Meaning.{covers}
use Rattle.records.specs.Logs.{Mem, log_records, IsLog, Met}

unfoldable pub meeting : Record
meeting = Contact 0 1 0 0

unfoldable pub never : List Record
never = []

unfoldable pub once : List Record
once = meeting ∷ []

unfoldable pub twice : List Record
twice = meeting ∷ once

unfoldable pub bytes_of : List Record → List ℕ
bytes_of cts = encode_all (log_records 2 1 cts)

repeated : (cts : List Record) → ((c : Record) → Mem c cts → c ≡ meeting) → length cts ≤ max_contacts → IsLog (bytes_of cts) 2 1 cts
unfolding within_limits valid_contact ◌and◌ isnt meeting bytes_of
repeated cts same few = record { limits = refl; few = few; valid = λ c i. rw (same c i); bytes = refl }

pub never-log : IsLog (bytes_of never) 2 1 never
unfolding never
never-log = repeated [] (λ c i. absurd (Memᴰ.not-nil i)) (omega arith)

pub in-once : (c : Record) → Mem c once → c ≡ meeting
unfolding once
in-once c (Memᴰ.head e) = e
in-once c (Memᴰ.tail i) = absurd (Memᴰ.not-nil i)

pub in_twice : (c : Record) → Mem c twice → c ≡ meeting
unfolding twice once
in_twice c (Memᴰ.head e) = e
in_twice c (Memᴰ.tail i) = in-once c i

pub once-log : IsLog (bytes_of once) 2 1 once
unfolding once
once-log = repeated once in-once (omega arith)

pub twice-log : IsLog (bytes_of twice) 2 1 twice
unfolding twice once
twice-log = repeated twice in_twice (omega arith)

-- the words of two sets are enough for each
unfoldable pub two : List ℕ
two = replicate (words_for 2 1) 0

-- the contact is met in tick 0, by 0 with 1
pub met : {cts : List Record} → Mem meeting cts → Met cts 0 0 1
unfolding covers ◌and◌ ◌or◌ meeting
met i = (meeting, i, refl)
