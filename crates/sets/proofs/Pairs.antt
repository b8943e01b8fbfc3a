-- Laws of a set in two words, as the program has it: they are the laws of any number of words, read at two.
use mathlib.Core.Path.{◌≡◌, refl, sym, ap, ap₂, ◌∙◌}
use mathlib.Core.Bool.{true, false}
use mathlib.Core.List.{List, [], ◌∷◌, zip_with}
use mathlib.Core.Logic.{by_cases}
use Prim.Native.Nat.{ℕ, ◌+◌, ◌-◌, ◌*◌, ◌/◌, ◌%◌, ◌^◌, ◌≤◌, ◌<◌}
use native.Mathlib.Nat.{mod-lt, add_comm}
use native.Mathlib.Decide.{ℕ_discrete}
use native.Mathlib.Omega.{arith}
use lib.Bits.{bit_and, bit_or, or_add_and, and_le_l, and_le_r, and_zero_r, and_block}
use lib.Dec.{eqb, lit<}
use lib.ListN.{get_or}
use lib.Pow.{split}
use borrow.Author.Tests.{eq-eqb, ne_eqb}
use Rattle.sets.specs.declared.BadgeSet.{BadgeSet}
use Rattle.sets.specs.Sets.{is_sub, intersection, union, only, size}
use Rattle.sets.specs.Words.{word_bits, Words, from_words, to_words, lower_words}
use Rattle.sets.specs.Members.{capacity, members, insert}
use Rattle.sets.proofs.Bits.{one_shl}
use Rattle.sets.proofs.Sets.{insert-in}
use Rattle.sets.proofs.Blocks.{size-block}
use Rattle.sets.proofs.Words.{words-nil, words-cons, words-lt, none-words, to-from-words}
use Rattle.sets.proofs.WordByWord.{words-intersection, words-with}

-- two words are a list of words
pub two-words : {l h : ℕ} → l < 2 ^ word_bits → h < 2 ^ word_bits → Words (l ∷ h ∷ [])
two-words p q = words-cons p (words-cons q words-nil)

-- two words are those of the set that they hold, so two sets are equal exactly when their words are
pub two-words-of : (l h : ℕ) → l < 2 ^ word_bits → h < 2 ^ word_bits → to_words lower_words (from_words (l ∷ h ∷ [])) ≡ l ∷ h ∷ []
two-words-of l h p q = to-from-words lower_words (l ∷ h ∷ []) refl (two-words p q)

-- a set is its first word and, above it, its second
pub two-parts : (s : ℕ) → (get_or (to_words lower_words s) 0 0 < 2 ^ word_bits) × (get_or (to_words lower_words s) 0 0 + get_or (to_words lower_words s) 1 0 * 2 ^ word_bits ≡ s)
unfolding to_words
two-parts s = (mod-lt s (lit< tt), add_comm (s % 2 ^ word_bits) (s / 2 ^ word_bits * 2 ^ word_bits) ∙ split s word_bits)

-- a set has badges below the capacity alone
pub members-lt : (s : BadgeSet) → s.low < 2 ^ word_bits → s.high < 2 ^ word_bits → members s < 2 ^ capacity
members-lt s p q = words-lt _ (two-words p q)

-- it is empty when no bit of either word is 1
pub empty-two : (l h : ℕ) → eqb (bit_or l h) 0 ≡ eqb (from_words (l ∷ h ∷ [])) 0
unfolding from_words
empty-two l h = by_cases (ℕ_discrete (bit_or l h) 0)
    (λ e.
    let p : l ≡ 0 = omega (arith, or_add_and l h, and_le_r l h) in
    let q : h ≡ 0 = omega (arith, or_add_and l h, and_le_l l h) in
    rw (p, q))
    (λ f. ne_eqb _ _ f ∙ sym (ne_eqb (from_words (l ∷ h ∷ [])) 0 (λ e.
    let p : l ≡ 0 = none-words (l ∷ h ∷ []) e 0 (lit< tt) in
    let q : h ≡ 0 = none-words (l ∷ h ∷ []) e 1 (lit< tt) in
    f (rw (p, q)))))

-- it is a subset of another when each of its words is one of the other's word
module _ (a b c d : ℕ) (p : a < 2 ^ word_bits) (q : b < 2 ^ word_bits) (r : c < 2 ^ word_bits) (s : d < 2 ^ word_bits) where
  both : bit_and (from_words (a ∷ b ∷ [])) (from_words (c ∷ d ∷ [])) ≡ from_words (bit_and a c ∷ bit_and b d ∷ [])
  unfolding intersection zip_with
  both = words-intersection (a ∷ b ∷ []) (c ∷ d ∷ []) refl (two-words p q) (two-words r s)

  words : bit_and (from_words (a ∷ b ∷ [])) (from_words (c ∷ d ∷ [])) ≡ from_words (a ∷ b ∷ []) → bit_and a c ∷ bit_and b d ∷ [] ≡ a ∷ b ∷ []
  words e =
      sym (two-words-of (bit_and a c) (bit_and b d) (omega (arith, and_le_l a c)) (omega (arith, and_le_l b d)))
      ∙ ap (to_words lower_words) (sym both ∙ e)
      ∙ two-words-of a b p q

  pub sub-two : bit_and a c ≡ a → bit_and b d ≡ b → is_sub (from_words (a ∷ b ∷ [])) (from_words (c ∷ d ∷ [])) ≡ true
  unfolding is_sub
  sub-two e f = eq-eqb _ _ (both ∙ rw (e, f))

  pub sub_low : (bit_and a c ≡ a → ⊥) → is_sub (from_words (a ∷ b ∷ [])) (from_words (c ∷ d ∷ [])) ≡ false
  unfolding is_sub
  sub_low g = ne_eqb _ _ (λ e. g (ap (λ (x : List ℕ). get_or x 0 0) (words e)))

  pub sub-high : (bit_and b d ≡ b → ⊥) → is_sub (from_words (a ∷ b ∷ [])) (from_words (c ∷ d ∷ [])) ≡ false
  unfolding is_sub
  sub-high g = ne_eqb _ _ (λ e. g (ap (λ (x : List ℕ). get_or x 1 0) (words e)))

-- what it has in common with another set is in their lower words and in their upper words
common : (a b s : ℕ) → a < 2 ^ word_bits
    → intersection (from_words (a ∷ b ∷ [])) s ≡ bit_and b (get_or (to_words lower_words s) 1 0) * 2 ^ word_bits + bit_and a (get_or (to_words lower_words s) 0 0)
unfolding intersection to_words from_words
common a b s l =
    let e : from_words (a ∷ b ∷ []) ≡ b * 2 ^ word_bits + a = omega arith in
    ap₂ bit_and e (sym (split s word_bits)) ∙ and_block word_bits b (s / 2 ^ word_bits) a (s % 2 ^ word_bits) l (mod-lt s (lit< tt))

pub size-common : (a b s : ℕ) → a < 2 ^ word_bits
    → size (intersection (from_words (a ∷ b ∷ [])) s) ≡ size (bit_and a (get_or (to_words lower_words s) 0 0)) + size (bit_and b (get_or (to_words lower_words s) 1 0))
size-common a b s l =
    let c = get_or (to_words lower_words s) 0 0 in
    let d = get_or (to_words lower_words s) 1 0 in
    ap size (common a b s l) ∙ size-block word_bits (bit_and b d) (bit_and a c) (omega (arith, and_le_l a c)) ∙ omega arith

-- a set without badges in its upper word is its lower word, and has something in common with the lower word of another alone
pub lower-alone : (s : ℕ) → get_or (to_words lower_words s) 1 0 ≡ 0 → get_or (to_words lower_words s) 0 0 ≡ s
unfolding to_words
lower-alone s z = omega (arith, split s word_bits)

pub lower-common : (a b w : ℕ) → a < 2 ^ word_bits → w < 2 ^ word_bits → intersection (from_words (a ∷ b ∷ [])) w ≡ bit_and a w
unfolding to_words
lower-common a b w l h =
    let z : w / 2 ^ word_bits ≡ 0 = omega arith in
    let o : w % 2 ^ word_bits ≡ w = omega arith in
    common a b w l ∙ rw (z, o, and_zero_r b) (omega arith)

-- with one badge more, in the low word and in the high word
module _ (l h u : ℕ) (p : l < 2 ^ word_bits) (q : h < 2 ^ word_bits) where
  pub with-low : u < word_bits → from_words (bit_or l ((1 * 2 ^ u) % 2 ^ word_bits) ∷ h ∷ []) ≡ insert (from_words (l ∷ h ∷ [])) u
  unfolding union only
  with-low m =
      let d : u / word_bits ≡ 0 = omega arith in
      let r : u % word_bits ≡ u = omega arith in
      let e = words-with (l ∷ h ∷ []) u (two-words p q) (omega arith) in
      rw (one_shl u m) (sym (insert-in _ u (omega arith) ∙ rw (d, r) at e))

  pub with-high : word_bits ≤ u → u < capacity
      → from_words (l ∷ bit_or h ((1 * 2 ^ (u - word_bits)) % 2 ^ word_bits) ∷ []) ≡ insert (from_words (l ∷ h ∷ [])) u
  unfolding union only
  with-high b m =
      let d : u / word_bits ≡ 1 = omega arith in
      let r : u % word_bits ≡ u - word_bits = omega arith in
      let e = words-with (l ∷ h ∷ []) u (two-words p q) (omega arith) in
      rw (one_shl (u - word_bits) (omega arith)) (sym (insert-in _ u (omega arith) ∙ rw (d, r) at e))
