-- Laws of sets by their two words, for the sweep: those who pass on and are in contact with a badge, and the badges unseen on a walk over one word after
-- the other.
use mathlib.Core.Path.{◌≡◌, refl, sym, ap, ap₂, ◌∙◌}
use mathlib.Core.List.{List, [], ◌∷◌, zip_with}
use mathlib.Core.Logic.{by_cases}
use Prim.Native.Nat.{ℕ, ◌+◌, ◌*◌, ◌^◌, ◌<◌}
use native.Mathlib.Decide.{dec_lt}
use native.Mathlib.Omega.{arith}
use lib.Bits.{bit_and, and_zero_r}
use lib.ListN.{get_or}
use Rattle.sets.specs.Sets.{In, Sub, intersection, difference, only}
use Rattle.sets.specs.Members.{capacity}
use Rattle.sets.specs.Words.{word_bits, Words, from_words, to_words, in_word, lower_words, set_words, places, set_at}
use Rattle.sets.proofs.Sets.{not-in-none, in-difference, of-difference, in-only, of-only, in-lt, ext, difference-none}
use Rattle.sets.proofs.Words.{to-words-words, from-to-words}
use Rattle.sets.proofs.WordByWord.{words-intersection}
use Rattle.sets.proofs.Pairs.{two-words}
use Rattle.sets.proofs.InWord.{word-has, word_of}
use Rattle.sets.proofs.Places.{set-at-two}

-- those who are in the set at a place and in another, word by word; where the other has an empty second word, the first has them all
module _ (ws : List ℕ) (i s : ℕ) (w : Words ws) (l : i < places ws) (h : s < 2 ^ capacity) where
  pub sources-two : from_words (bit_and (get_or ws (i * set_words) 0) (get_or (to_words lower_words s) 0 0) ∷ bit_and (get_or ws (i * set_words + 1) 0) (get_or (to_words lower_words s) 1 0) ∷ []) ≡ intersection (set_at ws i) s
  unfolding intersection zip_with to_words
  sources-two = sym (ap₂ intersection (set-at-two ws i l) (sym (from-to-words lower_words s))
      ∙ words-intersection _ (to_words lower_words s) refl (two-words (w.at (i * set_words) (omega arith)) (w.at (i * set_words + 1) (omega arith))) (to-words-words lower_words s h))

  pub sources-low : get_or (to_words lower_words s) 1 0 ≡ 0 → bit_and (get_or ws (i * set_words) 0) (get_or (to_words lower_words s) 0 0) ≡ intersection (set_at ws i) s
  unfolding from_words
  sources-low e =
      let z : bit_and (get_or ws (i * set_words + 1) 0) (get_or (to_words lower_words s) 1 0) ≡ 0 = rw e (and_zero_r (get_or ws (i * set_words + 1) 0)) in
      omega (arith, sources-two, z)

-- what is left of the unseen on a walk over some of them, w, of which v have not had their turn: these are, and it is at its start, after a turn, and at
-- its end as follows
pub left_in : (s w v u : ℕ) → Sub v s → In v u → In (difference s (difference w v)) u
left_in s w v u h i = in-difference s _ u (h.at u i) (λ j. (of-difference w v u j).1 i)

pub left-start : (s w : ℕ) → difference s (difference w w) ≡ s
left-start s w = ext _ _ (λ x i. (of-difference s _ x i).0) (λ x i. in-difference s _ x i (λ j. let d = of-difference w w x j in d.1 d.0))

pub left-more : (s w v u : ℕ) → Sub v w → In v u → difference s (difference w (difference v (only u))) ≡ difference (difference s (difference w v)) (only u)
left-more s w v u h i = ext _ _
    (λ x j.
    let d = of-difference s _ x j in
    in-difference _ (only u) x
    (in-difference s _ x d.0 (λ k. let e = of-difference w v x k in d.1 (in-difference w _ x e.0 (λ m. e.1 (of-difference v (only u) x m).0))))
    (λ o. d.1 (let q : x ≡ u = of-only u x o in rw q (in-difference w _ u (h.at u i) (λ m. (of-difference v (only u) u m).1 (in-only u))))))
    (λ x j.
    let d = of-difference (difference s (difference w v)) (only u) x j in
    let e = of-difference s (difference w v) x d.0 in
    in-difference s _ x e.0 (λ k.
    let m = of-difference w (difference v (only u)) x k in
    e.1 (in-difference w v x m.0 (λ n. m.1 (in-difference v (only u) x n d.1)))))

pub left_end : (s w : ℕ) {v : ℕ} → v ≡ 0 → difference s (difference w v) ≡ difference s w
left_end s w e = ap (difference s) (rw e (difference-none w))

-- the badges of a word of a set are its own
pub word-sub : (s i : ℕ) {x : ℕ} → s < 2 ^ capacity → i < set_words → x ≡ get_or (to_words lower_words s) i 0 → Sub (in_word i x) s
word-sub s i h l e = rw e (record { at = λ v j. (word_of s h i v j).1 })

-- a set without the badges of its first word, x, has those of its second, y, and no other
module _ (s : ℕ) {x y : ℕ} (h : s < 2 ^ capacity) (e : x ≡ get_or (to_words lower_words s) 0 0) (f : y ≡ get_or (to_words lower_words s) 1 0) where
  pub second-left : Sub (in_word 1 y) (difference s (in_word 0 x))
  second-left = rw (e, f) (record {
    at = λ v j.
        let m = word_of s h 1 v j in
        in-difference s _ v m.1 (λ k. let n = word_of s h 0 v k in omega (arith, m.0, n.0));
  })

  pub none_left : difference (difference s (in_word 0 x)) (in_word 1 y) ≡ 0
  none_left = ext _ 0 (λ v j. absurd (go v (of-difference _ (in_word 1 y) v j))) (λ v j. absurd (not-in-none v j))
    where
      go : (v : ℕ) → In (difference s (in_word 0 x)) v × (In (in_word 1 y) v → ⊥) → ⊥
      go v d =
          let m = of-difference s (in_word 0 x) v d.0 in
          let k = in-lt capacity s v h m.0 in
          by_cases (dec_lt v word_bits)
          (λ l. m.1 (rw e (word-has s h 0 v m.0 (omega arith))))
          (λ l. d.1 (rw f (word-has s h 1 v m.0 (omega arith))))
