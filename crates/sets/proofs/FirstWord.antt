-- Laws of the smallest badge of a set in words, for any number of words: it is in the first word that has one, and without it that word loses its lowest bit.
use mathlib.Core.Path.{◌≡◌, refl, sym, ap, ◌∙◌}
use mathlib.Core.Bool.{true, false}
use mathlib.Core.List.{List, [], ◌∷◌}
use mathlib.Core.Logic.{by_cases}
use Prim.Native.Nat.{ℕ, suc, ◌+◌, ◌-◌, ◌*◌, ◌^◌}
use native.Mathlib.Nat.{add-zero, mul_comm}
use native.Mathlib.Decide.{ℕ_discrete}
use native.Mathlib.Omega.{arith}
use lib.Dec.{eqb, lit<}
use lib.ListN.{length}
use lib.Pow.{pow-add, pow-lt}
use borrow.Author.Tests.{eq-eqb, ne_eqb}
use Rattle.sets.specs.Sets.{intersection, difference, only, smallest}
use Rattle.sets.specs.Words.{word_bits, Words, from_words}
use Rattle.sets.proofs.Sets.{difference-none, none-difference}
use Rattle.sets.proofs.Smallest.{smallest-none, smallest-member, without-smallest}
use Rattle.sets.proofs.Blocks.{difference-block, smallest-low, smallest-high}
use Rattle.sets.proofs.Words.{words-head, words-rest}

-- the smallest badge is that of the first word that has one, with 64 for each word before it
unfoldable pub first_of : List ℕ → ℕ
first_of [] = 0
first_of (w ∷ ws) = elim (eqb w 0) [ true ↦ word_bits + first_of ws | false ↦ smallest word_bits w ]

pub first-later : (w : ℕ) (ws : List ℕ) → w ≡ 0 → first_of (w ∷ ws) ≡ word_bits + first_of ws
unfolding first_of
first-later w ws e = rw (eq-eqb w 0 e, first_of)

pub first-here : (w : ℕ) (ws : List ℕ) → (w ≡ 0 → ⊥) → first_of (w ∷ ws) ≡ smallest word_bits w
unfolding first_of
first-here w ws f = rw (ne_eqb w 0 f, first_of)

pub words-smallest : (ws : List ℕ) → Words ws → smallest (length ws * word_bits) (from_words ws) ≡ first_of ws
unfolding from_words first_of smallest
words-smallest [] h = refl
words-smallest (w ∷ ws) h = go (ℕ_discrete w 0) (words-smallest ws (words-rest h))
  where
    m : suc (length ws) * word_bits ≡ word_bits + length ws * word_bits
    m = omega arith

    go : Dec (w ≡ 0) → smallest (length ws * word_bits) (from_words ws) ≡ first_of ws
        → smallest (suc (length ws) * word_bits) (from_words ws * 2 ^ word_bits + w) ≡ first_of (w ∷ ws)
    go (yes e) ih =
        let z : from_words ws * 2 ^ word_bits + w ≡ from_words ws * 2 ^ word_bits = omega arith in
        rw (m, z) (smallest-high word_bits (length ws * word_bits) (from_words ws) ∙ ap (λ (x : ℕ). word_bits + x) ih ∙ sym (first-later w ws e))
    go (no f) ih = rw m (smallest-low word_bits (length ws * word_bits) (from_words ws) w (words-head h) f ∙ sym (first-here w ws f))

pub first-last : (w : ℕ) → first_of (w ∷ []) ≡ smallest word_bits w
unfolding first_of
first-last w = by_cases (ℕ_discrete w 0) (λ e. first-later w [] e ∙ rw e (sym (smallest-none word_bits))) (λ f. first-here w [] f)

-- without its smallest badge: the first word that has one loses its lowest bit
unfoldable pub without_first : List ℕ → List ℕ
without_first [] = []
without_first (w ∷ ws) = elim (eqb w 0) [ true ↦ w ∷ without_first ws | false ↦ intersection w (w - 1) ∷ ws ]

pub rest-later : (w : ℕ) (ws : List ℕ) → w ≡ 0 → without_first (w ∷ ws) ≡ w ∷ without_first ws
unfolding without_first
rest-later w ws e = rw (eq-eqb w 0 e, without_first)

pub rest-here : (w : ℕ) (ws : List ℕ) → (w ≡ 0 → ⊥) → without_first (w ∷ ws) ≡ intersection w (w - 1) ∷ ws
unfolding without_first
rest-here w ws f = rw (ne_eqb w 0 f, without_first)

pub words-without-first : (ws : List ℕ) → Words ws → from_words (without_first ws) ≡ difference (from_words ws) (only (first_of ws))
unfolding from_words without_first only intersection
words-without-first [] h = sym (none-difference (only (first_of [])))
words-without-first (w ∷ ws) h = go (ℕ_discrete w 0) (words-without-first ws (words-rest h))
  where
    go : Dec (w ≡ 0) → from_words (without_first ws) ≡ difference (from_words ws) (only (first_of ws))
        → from_words (without_first (w ∷ ws)) ≡ difference (from_words (w ∷ ws)) (only (first_of (w ∷ ws)))
    go (yes e) ih =
        let p : 2 ^ (word_bits + first_of ws) ≡ 2 ^ first_of ws * 2 ^ word_bits + 0 = pow-add 2 word_bits (first_of ws) ∙ mul_comm (2 ^ word_bits) (2 ^ first_of ws) ∙ sym (add-zero _) in
        ap from_words (rest-later w ws e)
        ∙ ap (λ (x : ℕ). x * 2 ^ word_bits + w) ih
        ∙ ap (λ (x : ℕ). difference (from_words ws) (2 ^ first_of ws) * 2 ^ word_bits + x) (sym (difference-none w))
        ∙ sym (difference-block word_bits (from_words ws) (2 ^ first_of ws) w 0 (words-head h) (lit< tt))
        ∙ ap (difference (from_words ws * 2 ^ word_bits + w)) (sym p ∙ ap (λ (x : ℕ). 2 ^ x) (sym (first-later w ws e)))
    go (no f) ih =
        let m = smallest-member word_bits w (words-head h) f in
        let p : 2 ^ smallest word_bits w ≡ 0 * 2 ^ word_bits + 2 ^ smallest word_bits w = omega arith in
        ap from_words (rest-here w ws f)
        ∙ ap (λ (x : ℕ). from_words ws * 2 ^ word_bits + x) (without-smallest word_bits w (words-head h) f)
        ∙ ap (λ (x : ℕ). x * 2 ^ word_bits + difference w (2 ^ smallest word_bits w)) (sym (difference-none (from_words ws)))
        ∙ sym (difference-block word_bits (from_words ws) 0 w (2 ^ smallest word_bits w) (words-head h) (pow-lt m.1))
        ∙ ap (difference (from_words ws * 2 ^ word_bits + w)) (sym p ∙ ap (λ (x : ℕ). 2 ^ x) (sym (first-here w ws f)))
