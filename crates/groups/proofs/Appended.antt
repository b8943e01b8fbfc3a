-- Laws of records that are appended to a buffer: their bytes one after the other.
use mathlib.Core.Path.{◌≡◌, refl, sym, ap, ◌∙◌}
use mathlib.Core.List.{List, [], ◌∷◌, ◌++◌, append_assoc, append-nil}
use Prim.Native.Nat.{ℕ, ◌+◌, ◌-◌, ◌*◌, ◌/◌, ◌%◌, ◌^◌, ◌≤◌, ◌<◌}
use native.Mathlib.Nat.{mul-add, mul-le-mul, mul-le-mul_left}
use native.Mathlib.Omega.{arith}
use lib.ListN.{length, get_or, take, drop, length-append}
use lib.Seq.{drop-drop}
use Rattle.std.specs.Int.{w64, to_le_bytes}
use Rattle.sets.specs.Bytes.{little_endian}
use Rattle.sets.proofs.Bytes.{append-little-endian}
use Rattle.logs.specs.Buffers.{place}
use Rattle.logs.proofs.Delivering.{length-place, take-place, drop-place}
use Rattle.spans.specs.SpanCores.{SpanCore}
use Rattle.spans.specs.Encoding.{form_of, core_bytes, record_bytes, encode_core, encode_cores}
use Rattle.spans.proofs.Forms.{marked}
use Rattle.spans.proofs.Encoding.{encode-core-length, encode-cores-append}
use Rattle.groups.specs.Appending.{AppendsCores}

-- lists that are the same from a place on are so from a later place on
pub further : (m n : ℕ) (xs ys : List ℕ) → m ≤ n → drop m xs ≡ drop m ys → drop n xs ≡ drop n ys
further m n xs ys l e =
    let q : m + (n - m) ≡ n = omega arith in
    rw q at (sym (drop-drop (n - m) m xs) ∙ ap (drop (n - m)) e ∙ drop-drop (n - m) m ys)

-- a mark of two letters, by its letters
pub two-letters : (mark : List ℕ) → length mark ≡ 2 → (rest : List ℕ) → get_or mark 0 0 ∷ get_or mark 1 0 ∷ rest ≡ mark ++ rest
two-letters [] two rest = absurd (omega arith)
two-letters (a ∷ []) two rest = absurd (omega arith)
two-letters (a ∷ b ∷ []) two rest = refl
two-letters (a ∷ b ∷ d ∷ mark) two rest = absurd (omega arith)

-- the bytes of a word, the lowest first
pub le-bytes : (x : ℕ) → to_le_bytes w64 x ≡ little_endian 8 x
unfolding little_endian
le-bytes x =
    let a : x / 256 ^ 1 % 256 ≡ x / 256 % 256 = omega arith in
    let b : x / 256 ^ 2 % 256 ≡ x / 256 / 256 % 256 = omega arith in
    let c : x / 256 ^ 3 % 256 ≡ x / 256 / 256 / 256 % 256 = omega arith in
    let d : x / 256 ^ 4 % 256 ≡ x / 256 / 256 / 256 / 256 % 256 = omega arith in
    let e : x / 256 ^ 5 % 256 ≡ x / 256 / 256 / 256 / 256 / 256 % 256 = omega arith in
    let f : x / 256 ^ 6 % 256 ≡ x / 256 / 256 / 256 / 256 / 256 / 256 % 256 = omega arith in
    let g : x / 256 ^ 7 % 256 ≡ x / 256 / 256 / 256 / 256 / 256 / 256 / 256 % 256 = omega arith in
    rw (a, b, c, d, e, f, g) refl

-- a record with a set of 16 bytes: those of its lower and of its upper word
pub wide-record : (mark : List ℕ) → length mark ≡ 2 → (c : SpanCore) (lower upper : ℕ) → lower < 2 ^ 64 → lower + upper * 2 ^ 64 ≡ c.members → (xs ys : List ℕ) → xs ≡ little_endian 8 lower → ys ≡ little_endian 8 upper
    → get_or mark 0 0 ∷ get_or mark 1 0 ∷ c.order ∷ c.first ∷ c.last ∷ get_or xs 0 0 ∷ get_or xs 1 0 ∷ get_or xs 2 0 ∷ get_or xs 3 0 ∷ get_or xs 4 0 ∷ get_or xs 5 0 ∷ get_or xs 6 0 ∷ get_or xs 7 0
    ∷ get_or ys 0 0 ∷ get_or ys 1 0 ∷ get_or ys 2 0 ∷ get_or ys 3 0 ∷ get_or ys 4 0 ∷ get_or ys 5 0 ∷ get_or ys 6 0 ∷ get_or ys 7 0 ∷ [] ≡ encode_core 16 mark c
unfolding encode_core little_endian
wide-record mark two c lower upper h e xs ys f g =
    let set : little_endian 8 lower ++ little_endian 8 upper ≡ little_endian 16 c.members = append-little-endian 8 8 lower upper h ∙ ap (little_endian 16) e in
    rw (f, g) (two-letters mark two _ ∙ ap (λ (bs : List ℕ). mark ++ (c.order ∷ c.first ∷ c.last ∷ bs)) set)

-- so many records have few bytes
pub short-records : (n : ℕ) {w count most : ℕ} → w ≡ (form_of n).set_bytes → count ≤ most → (w ≤ 16) × (core_bytes w * count ≤ 21 * most)
short-records n same few =
    let short : record_bytes n ≤ 21 = omega (arith, (marked n).most) in
    rw same ((marked n).most, mul-le-mul short few)

module _ {mark : List ℕ} {w header : ℕ} where
  -- nothing is appended
  pub appends-none : {count : ℕ} {buffer : List ℕ} → AppendsCores mark w header [] count count buffer buffer
  unfolding encode_cores
  appends-none = record { number = omega arith; size = refl; bytes = sym (append-nil _); rest = refl }

  -- one list after another
  pub appends-then : {xs ys : List SpanCore} {i j k : ℕ} {x y z : List ℕ} → AppendsCores mark w header xs i j x y → AppendsCores mark w header ys j k y z
      → AppendsCores mark w header (xs ++ ys) i k x z
  appends-then {xs} {ys} {i} {j} {k} {x} {y} {z} e f =
      let later : j ≤ k = omega (arith, f.number) in
      record {
        number = omega (arith, e.number, f.number, length-append xs ys);
        size = f.size ∙ e.size;
        bytes =
            f.bytes ∙ ap (λ (s : List ℕ). s ++ encode_cores w mark ys) e.bytes ∙ append_assoc (take (header + core_bytes w * i) x) (encode_cores w mark xs) (encode_cores w mark ys)
            ∙ ap (λ (s : List ℕ). take (header + core_bytes w * i) x ++ s) (sym (encode-cores-append w mark xs ys));
        rest = f.rest ∙ further (header + core_bytes w * j) (header + core_bytes w * k) y x (omega (arith, mul-le-mul_left (core_bytes w) later)) e.rest;
      }

  -- one record
  pub appends-one : length mark ≡ 2 → (c : SpanCore) {count : ℕ} {buffer buffer' : List ℕ} → header + core_bytes w * count + core_bytes w ≤ length buffer
      → buffer' ≡ place (header + core_bytes w * count) (encode_core w mark c) buffer → AppendsCores mark w header (c ∷ []) count (count + 1) buffer buffer'
  unfolding encode_cores
  appends-one two c {count} {buffer} {buffer'} h e =
      let at = header + core_bytes w * count in
      let bytes = encode_core w mark c in
      let long : length bytes ≡ core_bytes w = encode-core-length w mark two c in
      let next : header + core_bytes w * (count + 1) ≡ at + length bytes = omega (arith, mul-add (core_bytes w) count 1) in
      record {
        number = omega arith;
        size = ap length e ∙ length-place at bytes buffer (omega arith);
        bytes = rw (next, e) (take-place at bytes buffer (omega arith)) ∙ ap (λ (s : List ℕ). take at buffer ++ s) (sym (append-nil bytes));
        rest = rw (next, e) (drop-place at bytes buffer (omega arith));
      }
