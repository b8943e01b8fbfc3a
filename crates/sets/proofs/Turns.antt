-- Laws of a turn of a walk over the badges of a set in two words: the first word that has a badge loses its lowest bit.
use mathlib.Core.Path.{◌≡◌, sym, ap, ◌∙◌}
use mathlib.Core.List.{List, [], ◌∷◌}
use Prim.Native.Nat.{ℕ, ◌+◌, ◌-◌, ◌^◌, ◌<◌}
use native.Mathlib.Omega.{arith}
use lib.Bits.{bit_and}
use lib.Count.{count_trailing_zeros}
use Rattle.std.specs.Prelude.{Some}
use Rattle.sets.specs.Sets.{intersection, difference, only, size, smallest, TakesSmallest}
use Rattle.sets.specs.Words.{word_bits, from_words}
use Rattle.sets.specs.Members.{capacity}
use Rattle.sets.proofs.Smallest.{smallest-trailing, smallest-member}
use Rattle.sets.proofs.Size.{size-without}
use Rattle.sets.proofs.FirstWord.{without_first, words-smallest, words-without-first, first-later, first-here, first-last, rest-later, rest-here}
use Rattle.sets.proofs.Pairs.{two-words}

module _ (l h : ℕ) (p : l < 2 ^ word_bits) (q : h < 2 ^ word_bits) where
  abbrev set : ℕ
  set = from_words (l ∷ h ∷ [])

  -- words that are those of a set but for the lowest bit of the first word that has one
  pub is-rest : {ws : List ℕ} → ws ≡ without_first (l ∷ h ∷ []) → from_words ws ≡ difference set (only (smallest capacity set))
  is-rest e =
      let w = two-words p q in
      ap from_words e ∙ words-without-first (l ∷ h ∷ []) w ∙ ap (λ (x : ℕ). difference set (only x)) (sym (words-smallest (l ∷ h ∷ []) w))

  module _ (f : l ≡ 0 → ⊥) where
    smallest-low : smallest capacity set ≡ count_trailing_zeros word_bits l
    smallest-low = words-smallest (l ∷ h ∷ []) (two-words p q) ∙ first-here l (h ∷ []) f ∙ smallest-trailing word_bits l

    pub rest-low : from_words (bit_and l (l - 1) ∷ h ∷ []) ≡ difference set (only (smallest capacity set))
    unfolding intersection
    rest-low = is-rest (sym (rest-here l (h ∷ []) f))

    pub turn-low : TakesSmallest capacity set (Some (count_trailing_zeros word_bits l)) (from_words (bit_and l (l - 1) ∷ h ∷ []))
    unfolding from_words
    turn-low = (omega arith, sym smallest-low, rest-low ∙ ap (λ (x : ℕ). difference set (only x)) smallest-low)

  module _ (e : l ≡ 0) (f : h ≡ 0 → ⊥) where
    smallest-high : smallest capacity set ≡ word_bits + count_trailing_zeros word_bits h
    smallest-high = words-smallest (l ∷ h ∷ []) (two-words p q) ∙ first-later l (h ∷ []) e ∙ ap (λ (x : ℕ). word_bits + x) (first-last h ∙ smallest-trailing word_bits h)

    pub rest-high : from_words (l ∷ bit_and h (h - 1) ∷ []) ≡ difference set (only (smallest capacity set))
    unfolding intersection
    rest-high = is-rest (sym (rest-later l (h ∷ []) e ∙ ap (λ (x : List ℕ). l ∷ x) (rest-here h [] f)))

    pub turn-high : TakesSmallest capacity set (Some (word_bits + count_trailing_zeros word_bits h)) (from_words (l ∷ bit_and h (h - 1) ∷ []))
    unfolding from_words
    turn-high = (omega arith, sym smallest-high, rest-high ∙ ap (λ (x : ℕ). difference set (only x)) smallest-high)

-- one badge fewer is left after it
pub turn-fewer : {s u t : ℕ} → s < 2 ^ capacity → TakesSmallest capacity s (Some u) t → size t < size s
turn-fewer {s} {u} h t = rw (t.2, t.1) (size-without s _ (smallest-member capacity s h (omega arith)).0)
