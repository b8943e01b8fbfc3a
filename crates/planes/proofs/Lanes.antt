-- Laws of numbers in lanes, for any number of planes: sums, constants and complements lane by lane, and the last plane.
use mathlib.Core.Path.{◌≡◌, refl, sym, ap, ◌∙◌}
use mathlib.Core.List.{List, [], ◌∷◌, ◌++◌}
use Prim.Native.Nat.{ℕ, zero, suc, ◌+◌, ◌*◌, ◌/◌, ◌%◌, ◌^◌, ◌≤◌, ◌<◌}
use native.Mathlib.Nat.{pow-suc, mod-lt, mod-eq_of_lt, zero-lt-suc}
use native.Mathlib.Omega.{arith}
use lib.Arith.{mod-mul}
use lib.Bits.{bit_and, bit_or, bit_xor}
use lib.Pow.{pow_pos}
use lib.ListN.{length}
use Rattle.std.specs.Int.{bit_not}
use Rattle.std.proofs.lemmas.Nat.Bits.{bit_at_not}
use mir.Syntax.{w64}
use Rattle.sets.specs.Sets.{bit, In, set_of, full}
use Rattle.sets.specs.Words.{word_bits}
use Rattle.sets.proofs.Bits.{bit-lt, bit-none, bit-and, bit-or, bit-xor}
use Rattle.sets.proofs.Sets.{in-full}
use Rattle.planes.specs.Lanes.{lane, FullAdder, Plus, Constant, Complement}

-- two bits added in each lane, and three
pub half-adder : (a b v : ℕ) → bit a v + bit b v ≡ bit (bit_xor a b) v + 2 * bit (bit_and a b) v
half-adder a b v = omega (arith, bit-xor v a b, bit-and v a b, bit-lt a v, bit-lt b v)

pub full-adder : (a b c : ℕ) → FullAdder a b c (bit_or (bit_and a b) (bit_and (bit_xor a b) c)) (bit_xor (bit_xor a b) c)
full-adder a b c = record {
  sum = λ v. omega (
    arith,
    bit-or v (bit_and a b) (bit_and (bit_xor a b) c),
    bit-and v a b,
    bit-and v (bit_xor a b) c,
    bit-xor v (bit_xor a b) c,
    bit-xor v a b,
    bit-lt a v,
    bit-lt b v,
    bit-lt c v,
  );
}

-- there is room for the number in a lane
pub lane-lt : (ps : List ℕ) (v : ℕ) → lane ps v < 2 ^ length ps
unfolding lane
lane-lt [] v = omega arith
lane-lt (p ∷ ps) v = rw pow-suc (omega (arith, bit-lt p v, lane-lt ps v))

-- a word of bits is added, each carry into the next plane
unfoldable pub added : List ℕ → ℕ → List ℕ
added [] c = []
added (p ∷ ps) c = bit_xor p c ∷ added ps (bit_and p c)

-- one plane more below: a number with a digit more, and room for a digit more
one_more : (n b a : ℕ) → b < 2 → (b + 2 * a) % 2 ^ suc n ≡ b + 2 * (a % 2 ^ n)
one_more n b a l =
    let q : (b + 2 * a) / 2 ≡ a = omega arith in
    rw pow-suc (omega (arith, mod-mul (b + 2 * a) {m = 2 ^ n} {c = 2} (pow_pos n) (zero-lt-suc 1), ap (λ (x : ℕ). x % 2 ^ n) q))

-- a sum whose last digit is b, and whose other digits are in the planes above
next-plane : (n b a : ℕ) {s x : ℕ} → b < 2 → s ≡ b + 2 * a → x ≡ a % 2 ^ n → b + 2 * x ≡ s % 2 ^ suc n
next-plane n b a l e f = ap (λ (y : ℕ). b + 2 * y) f ∙ sym (one_more n b a l) ∙ ap (λ (y : ℕ). y % 2 ^ suc n) (sym e)

added-lane : (ps : List ℕ) (c v : ℕ) → lane (added ps c) v ≡ (lane ps v + bit c v) % 2 ^ length ps
unfolding lane added
added-lane [] c v = omega arith
added-lane (p ∷ ps) c v = next-plane (length ps) (bit (bit_xor p c) v) (lane ps v + bit (bit_and p c) v) (bit-lt (bit_xor p c) v) (omega (arith, half-adder p c v)) (added-lane ps (bit_and p c) v)

pub added-plus : (ps : List ℕ) (c : ℕ) → Plus (bit c) ps (added ps c)
added-plus ps c = record { lanes = added-lane ps c }

-- where there is room, the sum is whole
pub plus-sum : {x : ℕ → ℕ} {ps qs : List ℕ} → Plus x ps qs → (v : ℕ) → lane ps v + x v < 2 ^ length ps → lane qs v ≡ lane ps v + x v
plus-sum p v h = p.lanes v ∙ mod-eq_of_lt h

-- Two words are added by a full adder in the first plane; its carry goes on.
pub two-plus : (p0 : ℕ) (ps : List ℕ) (a b : ℕ) {high low : ℕ} → FullAdder p0 a b high low → Plus (λ (v : ℕ). bit a v + bit b v) (p0 ∷ ps) (low ∷ added ps high)
unfolding lane
two-plus p0 ps a b {high} {low} s = record {
  lanes = λ v. next-plane (length ps) (bit low v) (lane ps v + bit high v) (bit-lt low v) (omega (arith, s.sum v)) (added-lane ps high v);
}

-- Eight words are added by seven full adders: four in the first plane, two in the second, one in the third; the last carry goes on.
pub eight-plus : (p0 p1 p2 : ℕ) (ps : List ℕ) (a b c d e f g h : ℕ) {h1 l1 h2 l2 h3 l3 h4 l4 h5 l5 h6 l6 h7 l7 : ℕ}
    → FullAdder p0 a b h1 l1 → FullAdder l1 c d h2 l2 → FullAdder l2 e f h3 l3 → FullAdder l3 g h h4 l4
    → FullAdder p1 h1 h2 h5 l5 → FullAdder l5 h3 h4 h6 l6 → FullAdder p2 h5 h6 h7 l7
    → Plus (λ (v : ℕ). bit a v + bit b v + bit c v + bit d v + bit e v + bit f v + bit g v + bit h v) (p0 ∷ p1 ∷ p2 ∷ ps) (l4 ∷ l6 ∷ l7 ∷ added ps h7)
unfolding lane
eight-plus p0 p1 p2 ps a b c d e f g h {l4 = l4} {l6 = l6} {h7 = h7} {l7 = l7} s1 s2 s3 s4 s5 s6 s7 = record {
  lanes = λ v.
      let third = next-plane (length ps) (bit l7 v) (lane ps v + bit h7 v) {s = bit l7 v + 2 * (lane ps v + bit h7 v)} (bit-lt l7 v) refl (added-lane ps h7 v) in
      let second = next-plane (suc (length ps)) (bit l6 v) (bit l7 v + 2 * (lane ps v + bit h7 v)) {s = bit l6 v + 2 * (bit l7 v + 2 * (lane ps v + bit h7 v))} (bit-lt l6 v) refl third in
      next-plane (suc (suc (length ps))) (bit l4 v) (bit l6 v + 2 * (bit l7 v + 2 * (lane ps v + bit h7 v))) (bit-lt l4 v)
      (omega (arith, s1.sum v, s2.sum v, s3.sum v, s4.sum v, s5.sum v, s6.sum v, s7.sum v)) second;
}

-- planes that are words, and the same with every bit the other way
abbrev pub are_words : List ℕ → Type 0
are_words [] = Unit
are_words (p ∷ ps) = (p < 2 ^ word_bits) × are_words ps

unfoldable pub flipped : List ℕ → List ℕ
flipped [] = []
flipped (p ∷ ps) = bit_not w64 p ∷ flipped ps

bit-flipped : (p v : ℕ) → p < 2 ^ word_bits → v < word_bits → bit p v + bit (bit_not w64 p) v ≡ 1
unfolding bit
bit-flipped p v w h = omega (arith, bit_at_not w64 p v w h, bit-lt p v)

flipped_lane : (v : ℕ) → v < word_bits → (ps : List ℕ) → are_words ps → lane ps v + lane (flipped ps) v + 1 ≡ 2 ^ length ps
unfolding lane flipped
flipped_lane v h [] w = refl
flipped_lane v h (p ∷ ps) w = rw pow-suc (omega (arith, bit-flipped p v w.0 h, flipped_lane v h ps w.1))

-- a number in every lane, digit by digit
unfoldable pub repeated : ℕ → ℕ → ℕ → List ℕ
repeated o zero x = []
repeated o (suc n) x = x % 2 * o ∷ repeated o n (x / 2)

digit-bit : (o v : ℕ) → In o v → (b : ℕ) → b < 2 → bit (b * o) v ≡ b
digit-bit o v i zero h = ap (λ (x : ℕ). bit x v) (omega arith) ∙ bit-none v
digit-bit o v i (suc zero) h = ap (λ (x : ℕ). bit x v) (omega arith) ∙ i
digit-bit o v i (suc (suc b)) h = absurd (omega arith)

repeated-lane : (o v : ℕ) → In o v → (n x : ℕ) → lane (repeated o n x) v ≡ x % 2 ^ n
unfolding lane repeated
repeated-lane o v i zero x = omega arith
repeated-lane o v i (suc n) x =
    let b = digit-bit o v i (x % 2) (mod-lt x (zero-lt-suc 1)) in
    next-plane n (bit (x % 2 * o) v) (x / 2) (bit-lt (x % 2 * o) v) (omega (arith, b)) (repeated-lane o v i n (x / 2))

pub flipped-complement : (ps : List ℕ) → are_words ps → Complement ps (flipped ps)
flipped-complement ps w = record { sum = λ v h. flipped_lane v h ps w }

pub repeated-length : (o n x : ℕ) → length (repeated o n x) ≡ n
unfolding repeated
repeated-length o zero x = refl
repeated-length o (suc n) x = ap suc (repeated-length o n (x / 2))

pub repeated-constant : (o : ℕ) → ((v : ℕ) → v < word_bits → In o v) → (n x : ℕ) → Constant x (repeated o n x)
repeated-constant o i n x = record { lanes = λ v h. rw (repeated-length o n x) (repeated-lane o v (i v h) n x) }

-- where there is room for it, the number is whole
pub constant-each : {x : ℕ} {ps : List ℕ} → Constant x ps → (v : ℕ) → v < word_bits → x < 2 ^ length ps → lane ps v ≡ x
constant-each c v h l = c.lanes v h ∙ mod-eq_of_lt l

-- The last plane has a 1 in the lanes whose number is at least half of what there is room for.
pub top_lane : (ps : List ℕ) (q v : ℕ) → lane (ps ++ q ∷ []) v ≡ lane ps v + 2 ^ length ps * bit q v
unfolding lane
top_lane [] q v = omega arith
top_lane (p ∷ ps) q v = rw pow-suc (omega (arith, bit-lt q v, top_lane ps q v, go (bit q v) (bit-lt q v)))
  where
    go : (b : ℕ) → b < 2 → 2 ^ length ps * 2 * b ≡ 2 ^ length ps * b * 2
    go zero h = omega arith
    go (suc zero) h = omega arith
    go (suc (suc b)) h = absurd (omega arith)

pub in_top : (ps : List ℕ) (q v : ℕ) → 2 ^ length ps ≤ lane (ps ++ q ∷ []) v → In q v
in_top ps q v h = go (bit q v) refl (bit-lt q v)
  where
    go : (b : ℕ) → bit q v ≡ b → b < 2 → bit q v ≡ 1
    go zero e l = absurd (omega (arith, top_lane ps q v ∙ ap (λ (x : ℕ). lane ps v + 2 ^ length ps * x) e, lane-lt ps v))
    go (suc zero) e l = e
    go (suc (suc b)) e l = absurd (omega arith)

pub of-top : (ps : List ℕ) (q v : ℕ) → In q v → 2 ^ length ps ≤ lane (ps ++ q ∷ []) v
of-top ps q v i = omega (arith, top_lane ps q v ∙ ap (λ (x : ℕ). lane ps v + 2 ^ length ps * x) i)

-- a word of ones has a 1 in every lane
pub every_in : (v : ℕ) → v < word_bits → In 18446744073709551615 v
unfolding full set_of
every_in v h = in-full word_bits v h
