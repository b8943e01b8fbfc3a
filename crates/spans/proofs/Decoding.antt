-- Decoding inverts encoding: the bytes of reports and plans say the records that they were made of.
use mathlib.Core.Path.{◌≡◌, refl}
use mathlib.Core.List.Memᴰ
use mathlib.Core.List.{List, [], ◌∷◌, ◌++◌, append_assoc}
use Prim.Native.Nat.{ℕ, ◌+◌, ◌-◌, ◌*◌, ◌^◌, ◌≤◌, ◌<◌}
use native.Mathlib.Omega.{arith}
use lib.ListN.{length, get_or, drop, length-append}
use lib.Seq.{take_at, drop_at, drop-append-add}
use Rattle.sets.specs.Bytes.{little_endian}
use Rattle.sets.specs.Words.{word_bits}
use Rattle.sets.proofs.Bytes.{length-little-endian, from-to}
use Rattle.records.specs.declared.record.Record.TheVariants.{End}
use Rattle.records.specs.Records.{fields_of, encode}
use Rattle.records.proofs.Records.{length-encode}
use Rattle.spans.specs.SpanCores.{SpanCore, Mem}
use Rattle.spans.specs.Encoding.{form_of, core_bytes, encode_core, encode_cores, report_bytes, plan_bytes, decode_core, decode_cores, records_after, head_badges, report_records, plan_records}
use Rattle.spans.proofs.Forms.{marked, form-fits}
use Rattle.spans.proofs.Encoding.{encode-core-length}

-- one record whose members fit their bytes, whatever follows
decode-core : (w : ℕ) (mark : List ℕ) → length mark ≡ 2 → (c : SpanCore) (rest : List ℕ) → c.members < 256 ^ w → decode_core w (encode_core w mark c ++ rest) ≡ c
unfolding encode_core decode_core
decode-core w [] two c rest h = absurd (omega arith)
decode-core w (a ∷ []) two c rest h = absurd (omega arith)
decode-core w (a ∷ b ∷ d ∷ mark) two c rest h = absurd (omega arith)
decode-core w (a ∷ b ∷ []) two c rest h = rw (take_at (little_endian w c.members) rest w (length-little-endian w c.members), from-to w c.members h)

-- records one after the other
pub decode-cores : (w : ℕ) (mark : List ℕ) → length mark ≡ 2 → (cs : List SpanCore) (rest : List ℕ) → ((c : SpanCore) → Mem c cs → c.members < 256 ^ w)
    → decode_cores w (length cs) (encode_cores w mark cs ++ rest) ≡ cs
unfolding encode_cores decode_cores
decode-cores w mark two [] rest h = refl
decode-cores w mark two (c ∷ cs) rest h =
    rw (
      append_assoc (encode_core w mark c) (encode_cores w mark cs) rest,
      decode-core w mark two c (encode_cores w mark cs ++ rest) (h c (Memᴰ.head refl)),
      drop_at (encode_core w mark c) (encode_cores w mark cs ++ rest) (core_bytes w) (encode-core-length w mark two c),
      decode-cores w mark two cs rest (λ d m. h d (Memᴰ.tail m)),
    )

-- the last four bytes are those of the end's count
pub last-four : (xs : List ℕ) (count : ℕ) → drop (length (xs ++ encode (End count)) - 4) (xs ++ encode (End count)) ≡ little_endian 4 count
unfolding encode fields_of
last-four xs count =
    let e : length (xs ++ encode (End count)) - 4 ≡ length xs + 2 = omega (arith, length-append xs (encode (End count)), length-encode (End count)) in
    rw e (drop-append-add xs (encode (End count)) 2)

-- records after a header, and an end with their count
records-said : (w : ℕ) (mark : List ℕ) → length mark ≡ 2 → {header count : ℕ} (head : List ℕ) (cs : List SpanCore) → length head ≡ header → length cs ≡ count → count < 2 ^ 32
    → ((c : SpanCore) → Mem c cs → c.members < 256 ^ w) → records_after w header (head ++ (encode_cores w mark cs ++ encode (End count))) ≡ cs
unfolding records_after
records-said w mark two {header} {count} head cs e f h k =
    let bytes = head ++ (encode_cores w mark cs ++ encode (End count)) in
    let split : (head ++ encode_cores w mark cs) ++ encode (End count) ≡ bytes = append_assoc head (encode_cores w mark cs) (encode (End count)) in
    let four : drop (length bytes - 4) bytes ≡ little_endian 4 count = rw split at (last-four (head ++ encode_cores w mark cs) count) in
    rw (four, from-to 4 count h, drop_at head (encode_cores w mark cs ++ encode (End count)) header e, ← f) (decode-cores w mark two cs (encode (End (length cs))) k)

-- after a mark of two letters, n and T are the third and the fourth byte
sizes : (mark : List ℕ) → length mark ≡ 2 → (n T : ℕ) (rest after : List ℕ) → let bytes = (mark ++ (n ∷ T ∷ rest)) ++ after in (head_badges bytes ≡ n) × (get_or bytes 3 0 ≡ T)
sizes [] two n T rest after = absurd (omega arith)
sizes (a ∷ []) two n T rest after = absurd (omega arith)
sizes (a ∷ b ∷ []) two n T rest after = (refl, refl)
sizes (a ∷ b ∷ d ∷ mark) two n T rest after = absurd (omega arith)

-- the bytes of a report and of a plan
pub report-sizes : (n T : ℕ) (cs : List SpanCore) (after : List ℕ) → let bytes = report_bytes n T cs ++ after in (head_badges bytes ≡ n) × (get_or bytes 3 0 ≡ T)
unfolding report_bytes
report-sizes n T cs after = rw append_assoc (sizes (form_of n).report (marked n).report n T [] _)

pub report-said : (n T : ℕ) (cs : List SpanCore) → n ≤ 2 * word_bits → ((c : SpanCore) → Mem c cs → c.members < 2 ^ n) → length cs < 2 ^ 32 → report_records (report_bytes n T cs) ≡ cs
unfolding report_bytes
report-said n T cs most h k =
    let head = (form_of n).report ++ (n ∷ T ∷ []) in
    let badges : head_badges (report_bytes n T cs) ≡ n = (sizes (form_of n).report (marked n).report n T [] _).0 in
    rw badges
    (records-said (form_of n).set_bytes (form_of n).group (marked n).group head cs (omega (arith, length-append (form_of n).report (n ∷ T ∷ []), (marked n).report)) refl k (λ c i. form-fits n c.members most (h c i)))

pub plan-said : (n T h query : ℕ) (ps : List SpanCore) → n ≤ 2 * word_bits → ((c : SpanCore) → Mem c ps → c.members < 2 ^ n) → length ps ≡ h → h < 2 ^ 32
    → plan_records (plan_bytes n T h query ps) ≡ ps
unfolding plan_bytes
plan-said n T h query ps most k e l =
    let w = (form_of n).set_bytes in
    let head = (form_of n).plan ++ (n ∷ T ∷ h ∷ little_endian w query) in
    let badges : head_badges (plan_bytes n T h query ps) ≡ n = (sizes (form_of n).plan (marked n).plan n T (h ∷ little_endian w query) _).0 in
    rw badges
    (records-said w (form_of n).part (marked n).part head ps (omega (arith, length-append (form_of n).plan (n ∷ T ∷ h ∷ little_endian w query), (marked n).plan, length-little-endian w query)) e l (λ c i. form-fits n c.members most (k c i)))
