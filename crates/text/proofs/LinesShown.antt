-- Laws of the lines that an answer shows: how many there are, and what each is, by the bytes of the report.
use mathlib.Core.Path.{◌≡◌, refl, sym, ap, ◌∙◌}
use mathlib.Core.List.{List, [], ◌∷◌, ◌++◌, map}
use Prim.Native.Nat.{ℕ, zero, suc, ◌+◌, ◌-◌, ◌*◌, ◌/◌, ◌^◌, ◌≤◌, ◌<◌}
use native.Mathlib.Nat.{not-suc-le-zero, zero-add, suc-add, mul-zero, mul-suc, mul_assoc, pow-suc}
use native.Mathlib.Omega.{arith}
use lib.ListN.{length, get_or, take, drop, replicate}
use lib.Seq.{take-nil, get_or-drop, drop-drop}
use Rattle.std.proofs.Common.{w64}
use Rattle.std.specs.Int.{from_le_bytes}
use Rattle.sets.specs.Bytes.{from_little_endian}
use Rattle.sets.specs.Words.{from_words}
use Rattle.records.specs.Outcomes.{Outcome, refused, success}
use Rattle.spans.specs.SpanCores.{SpanCore}
use Rattle.spans.specs.Encoding.{form_of, core_bytes, record_bytes, head_badges, decode_core, decode_cores}
use Rattle.logs.specs.Buffers.{place}
use Rattle.logs.proofs.Delivering.{place-fits, overwrite-front}
use Rattle.text.specs.Listing.{head_line, group_line, refusal_line, report_lines}
use Rattle.text.specs.Calls.{shown_lines}
use Rattle.text.specs.Making.{line_count}

-- as many lines as records, and the line of a record
pub lines-length : (cs : List SpanCore) → length (map group_line cs) ≡ length cs
lines-length [] = refl
lines-length (c ∷ cs) = ap suc (lines-length cs)

pub decode-length : (w k : ℕ) (bytes : List ℕ) → length (decode_cores w k bytes) ≡ k
unfolding decode_cores
decode-length w zero bytes = refl
decode-length w (suc k) bytes = ap suc (decode-length w k (drop (core_bytes w) bytes))

decode-at : (f : SpanCore → List ℕ) (w k : ℕ) (bytes : List ℕ) (i : ℕ) → i < k → get_or (map f (decode_cores w k bytes)) i [] ≡ f (decode_core w (drop (core_bytes w * i) bytes))
unfolding decode_cores
decode-at f w zero bytes i h = absurd (not-suc-le-zero h)
decode-at f w (suc k) bytes zero h = rw (mul-zero (core_bytes w))
decode-at f w (suc k) bytes (suc i) h =
    let r = core_bytes w in
    let e : r + r * i ≡ r * suc i = omega (arith, mul-suc r i) in
    decode-at f w k (drop r bytes) i (omega arith) ∙ ap (λ (bs : List ℕ). f (decode_core w bs)) (drop-drop (r * i) r bytes ∙ ap (λ (m : ℕ). drop m bytes) e)

-- how many lines there are
pub shown-count : (o : Outcome ℕ) (report : List ℕ) → length (shown_lines o report) ≡ line_count o report
unfolding shown_lines report_lines
shown-count (refused number offset) report = refl
shown-count (success size) report =
    let w = (form_of (head_badges report)).set_bytes in
    let k = (size - 10) / core_bytes w in
    ap suc (lines-length (decode_cores w k (drop 4 report)) ∙ decode-length w k (drop 4 report))

-- the line of a refusal
pub refusal-shown : (number offset : ℕ) (report : List ℕ) (i : ℕ) → i < line_count (refused number offset) report → get_or (shown_lines (refused number offset) report) i [] ≡ refusal_line number offset
unfolding shown_lines
refusal-shown number offset report zero h = refl
refusal-shown number offset report (suc i) h = absurd (omega arith)

module _ (size : ℕ) (report : List ℕ) {w : ℕ} (same : w ≡ (form_of (head_badges report)).set_bytes) where
  -- the first line
  pub shown-head : get_or (shown_lines (success size) report) 0 [] ≡ head_line (get_or report 2 0) (get_or report 3 0) ((size - 10) / core_bytes w)
  unfolding shown_lines report_lines
  shown-head = rw (same, decode-length (form_of (head_badges report)).set_bytes ((size - 10) / record_bytes (head_badges report)) (drop 4 report))

  -- that of a record
  pub shown-record : (i : ℕ) → 1 ≤ i → i < line_count (success size) report → get_or (shown_lines (success size) report) i [] ≡ group_line (decode_core w (drop (4 + core_bytes w * (i - 1)) report))
  unfolding shown_lines report_lines
  shown-record zero l h = absurd (omega arith)
  shown-record (suc i) l h =
      let e : suc i - 1 ≡ i = omega arith in
      rw (same, e) (decode-at group_line (form_of (head_badges report)).set_bytes ((size - 10) / record_bytes (head_badges report)) (drop 4 report) i (omega arith) ∙ ap (λ (bs : List ℕ). group_line (decode_core (form_of (head_badges report)).set_bytes bs)) (drop-drop (record_bytes (head_badges report) * i) 4 report))

-- the number that bytes say, in two parts
from-split : (v k : ℕ) (xs : List ℕ) → from_little_endian (take (v + k) xs) ≡ from_little_endian (take k (drop v xs)) * 256 ^ v + from_little_endian (take v xs)
unfolding from_little_endian
from-split zero k xs = rw zero-add (omega arith)
from-split (suc v) k [] = rw (take-nil {A = ℕ} k, take-nil {A = ℕ} (suc v + k)) (omega arith)
from-split (suc v) k (x ∷ xs) =
    let e : from_little_endian (take k (drop v xs)) * 256 ^ suc v ≡ from_little_endian (take k (drop v xs)) * 256 ^ v * 256 = rw (pow-suc, mul_assoc) in
    rw suc-add (omega (arith, from-split v k xs, e))

-- A set of w bytes is in two words: the lower says its first 8, the upper the others.
two-words-said : (w : ℕ) (xs : List ℕ) → 8 ≤ w → from_words (from_little_endian (take 8 xs) ∷ from_little_endian (take (w - 8) (drop 8 xs)) ∷ []) ≡ from_little_endian (take w xs)
unfolding from_words
two-words-said w xs h =
    let e : w ≡ 8 + (w - 8) = omega arith in
    let split : from_little_endian (take w xs) ≡ from_little_endian (take (w - 8) (drop 8 xs)) * 256 ^ 8 + from_little_endian (take 8 xs) = ap (λ (k : ℕ). from_little_endian (take k xs)) e ∙ from-split 8 (w - 8) xs in
    omega (arith, split)

-- so the record at a place is known by the bytes of the report
pub record-at : (report : List ℕ) (at w : ℕ) {order first last low high members : ℕ} → 8 ≤ w → order ≡ get_or report (at + 2) 0 → first ≡ get_or report (at + 3) 0 → last ≡ get_or report (at + 4) 0
    → low ≡ from_little_endian (take 8 (drop (at + 5) report)) → high ≡ from_little_endian (take (w - 8) (drop (at + 13) report)) → members ≡ from_words (low ∷ high ∷ [])
    → decode_core w (drop at report) ≡ record { order = order; first = first; last = last; members = members }
unfolding decode_core
record-at report at w {high = high} {members = members} l e f g h j k =
    let after : at + 5 + 8 ≡ at + 13 = omega arith in
    let second : high ≡ from_little_endian (take (w - 8) (drop 8 (drop (at + 5) report))) = j ∙ ap (λ (bs : List ℕ). from_little_endian (take (w - 8) bs)) (sym (drop-drop 8 (at + 5) report ∙ ap (λ (i : ℕ). drop i report) after)) in
    let set : members ≡ from_little_endian (take w (drop (at + 5) report)) = k ∙ rw (h, second) (two-words-said w (drop (at + 5) report) l) in
    rw (e, f, g, set, get_or-drop at report 2 0, get_or-drop at report 3 0, get_or-drop at report 4 0, drop-drop 5 at report)

-- Bytes, eight at most, laid over a word of zeros: the word says the number that they say.
zeros-after : (xs : List ℕ) → length xs ≤ 8 → from_le_bytes w64 (xs ++ drop (length xs) (replicate 8 0)) ≡ from_little_endian xs
unfolding from_little_endian
zeros-after [] h = omega arith
zeros-after (a ∷ []) h = omega arith
zeros-after (a ∷ b ∷ []) h = omega arith
zeros-after (a ∷ b ∷ c ∷ []) h = omega arith
zeros-after (a ∷ b ∷ c ∷ d ∷ []) h = omega arith
zeros-after (a ∷ b ∷ c ∷ d ∷ e ∷ []) h = omega arith
zeros-after (a ∷ b ∷ c ∷ d ∷ e ∷ f ∷ []) h = omega arith
zeros-after (a ∷ b ∷ c ∷ d ∷ e ∷ f ∷ g ∷ []) h = omega arith
zeros-after (a ∷ b ∷ c ∷ d ∷ e ∷ f ∷ g ∷ i ∷ []) h = omega arith
zeros-after (a ∷ b ∷ c ∷ d ∷ e ∷ f ∷ g ∷ i ∷ j ∷ xs) h = absurd (omega arith)

pub word-said : (xs : List ℕ) → length xs ≤ 8 → from_le_bytes w64 (place 0 xs (replicate 8 0)) ≡ from_little_endian xs
word-said xs h = rw (place-fits 0 xs (replicate 8 0) (omega arith), overwrite-front xs (replicate 8 0)) (zeros-after xs h)
