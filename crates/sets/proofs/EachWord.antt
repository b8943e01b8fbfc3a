-- Laws of sets in words that an operation works out of those of two sets, word by word, for any number of words and any operation that works part by part.
use mathlib.Core.Path.{◌≡◌, sym, ap₂, ◌∙◌}
use mathlib.Core.List.{List, [], ◌∷◌}
use Prim.Native.Nat.{ℕ, suc, ◌+◌, ◌*◌, ◌^◌, ◌<◌, zero-le, suc-le-suc}
use native.Mathlib.Omega.{arith}
use lib.Bits.{and_block, and_zero_l}
use lib.ListN.{length, get_or}
use Rattle.sets.specs.Sets.{intersection}
use Rattle.sets.specs.Words.{word_bits, Words, from_words, set_words, places, words_at, set_at}
use Rattle.sets.proofs.Words.{words-head, words-rest}
use Rattle.sets.proofs.Places.{set-at-in, at_length, at-word, at_words}

module _ (f : ℕ → ℕ → ℕ) (block : (k a b r s : ℕ) → r < 2 ^ k → s < 2 ^ k → f (a * 2 ^ k + r) (b * 2 ^ k + s) ≡ f a b * 2 ^ k + f r s) (none : f 0 0 ≡ 0) where
  -- the set that words hold
  pub each_word : (us vs ws : List ℕ) → length us ≡ length vs → length us ≡ length ws → Words vs → Words ws
      → ((x : ℕ) → x < length us → get_or us x 0 ≡ f (get_or vs x 0) (get_or ws x 0)) → from_words us ≡ f (from_words vs) (from_words ws)
  unfolding from_words
  each_word [] [] [] d e v w h = sym none
  each_word [] [] (c ∷ ws) d e v w h = absurd (omega arith)
  each_word [] (b ∷ vs) ws d e v w h = absurd (omega arith)
  each_word (a ∷ us) [] ws d e v w h = absurd (omega arith)
  each_word (a ∷ us) (b ∷ vs) [] d e v w h = absurd (omega arith)
  each_word (a ∷ us) (b ∷ vs) (c ∷ ws) d e v w h =
      ap₂ (λ (x y : ℕ). x * 2 ^ word_bits + y) (each_word us vs ws (omega arith) (omega arith) (words-rest v) (words-rest w) (λ x l. h (suc x) (suc-le-suc l))) (h 0 (suc-le-suc zero-le))
      ∙ sym (block word_bits (from_words vs) (from_words ws) b c (words-head v) (words-head w))

  -- the set at a place
  pub set-at-each : (us vs ws : List ℕ) (i j k : ℕ) → i < places us → j < places vs → k < places ws → Words vs → Words ws
      → ((x : ℕ) → x < set_words → get_or us (i * set_words + x) 0 ≡ f (get_or vs (j * set_words + x) 0) (get_or ws (k * set_words + x) 0)) → set_at us i ≡ f (set_at vs j) (set_at ws k)
  set-at-each us vs ws i j k a b c v w h =
      set-at-in us i a
      ∙ each_word (words_at us i) (words_at vs j) (words_at ws k) (at_length us i a ∙ sym (at_length vs j b)) (at_length us i a ∙ sym (at_length ws k c)) (at_words vs j b v) (at_words ws k c w)
      (λ x l. let m : x < set_words = omega (arith, at_length us i a) in at-word us i x m ∙ h x m ∙ sym (ap₂ f (at-word vs j x m) (at-word ws k x m)))
      ∙ sym (ap₂ f (set-at-in vs j b) (set-at-in ws k c))

-- of words that are intersections word by word, the set at a place is the intersection of the sets
pub set-at-intersection : (us vs ws : List ℕ) (i j k : ℕ) → i < places us → j < places vs → k < places ws → Words vs → Words ws
    → ((x : ℕ) → x < set_words → get_or us (i * set_words + x) 0 ≡ intersection (get_or vs (j * set_words + x) 0) (get_or ws (k * set_words + x) 0))
    → set_at us i ≡ intersection (set_at vs j) (set_at ws k)
unfolding intersection
set-at-intersection = set-at-each intersection and_block (and_zero_l 0)
