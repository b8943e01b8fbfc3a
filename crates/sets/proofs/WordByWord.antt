-- Laws of operations on sets in words, word by word, for any number of words: intersection, union, the two differences, one badge more or less,
-- the size, and all badges below n.
use mathlib.Core.Path.{◌≡◌, sym, ap, ap₂, ◌∙◌}
use mathlib.Core.List.{List, [], ◌∷◌, zip_with}
use Prim.Native.Nat.{ℕ, zero, suc, ◌+◌, ◌-◌, ◌*◌, ◌/◌, ◌%◌, ◌^◌, ◌<◌, min}
use native.Mathlib.Nat.{not-suc-le-zero}
use native.Mathlib.Decide.{dec_lt}
use native.Mathlib.Omega.{arith}
use lib.Bits.{and_block, or_block, xor_block, and_zero_l, or_zero_r, xor_zero_l}
use lib.Dec.{lit<}
use lib.ListN.{length, get_or, set}
use lib.Pow.{pow-add, pow-lt}
use Rattle.sets.specs.Sets.{intersection, union, difference, symmetric_difference, only, set_of, full, size}
use Rattle.sets.specs.Words.{word_bits, Words, from_words, in_word}
use Rattle.sets.proofs.Sets.{difference-none}
use Rattle.sets.proofs.Size.{size_none}
use Rattle.sets.proofs.Blocks.{difference-block, size-block, full_block}
use Rattle.sets.proofs.Words.{words-head, words-rest}
use Rattle.sets.proofs.InWord.{only-word}

-- An operation on sets that works part by part works on words word by word.
module _ (f : ℕ → ℕ → ℕ) (block : (k a b r s : ℕ) → r < 2 ^ k → s < 2 ^ k → f (a * 2 ^ k + r) (b * 2 ^ k + s) ≡ f a b * 2 ^ k + f r s) where
  pub word-by-word : f 0 0 ≡ 0 → (vs ws : List ℕ) → length vs ≡ length ws → Words vs → Words ws → f (from_words vs) (from_words ws) ≡ from_words (zip_with f vs ws)
  unfolding from_words zip_with
  word-by-word z [] [] e h k = z
  word-by-word z [] (w ∷ ws) e h k = absurd (omega arith)
  word-by-word z (v ∷ vs) [] e h k = absurd (omega arith)
  word-by-word z (v ∷ vs) (w ∷ ws) e h k =
      block word_bits (from_words vs) (from_words ws) v w (words-head h) (words-head k)
      ∙ ap (λ (x : ℕ). x * 2 ^ word_bits + f v w) (word-by-word z vs ws (omega arith) (words-rest h) (words-rest k))

  -- where the empty set changes nothing, the badges of one word change that word
  pub in-one-word : ((a : ℕ) → f a 0 ≡ a) → (ws : List ℕ) (i x : ℕ) → Words ws → x < 2 ^ word_bits → i < length ws
      → f (from_words ws) (in_word i x) ≡ from_words (set ws i (f (get_or ws i 0) x))
  unfolding from_words in_word
  in-one-word none [] i x h k l = absurd (not-suc-le-zero l)
  in-one-word none (w ∷ ws) zero x h k l =
      let e : x * 2 ^ (0 * word_bits) ≡ 0 * 2 ^ word_bits + x = omega arith in
      rw e (block word_bits (from_words ws) 0 w x (words-head h) k ∙ ap (λ (y : ℕ). y * 2 ^ word_bits + f w x) (none (from_words ws)))
  in-one-word none (w ∷ ws) (suc i) x h k l =
      let d : suc i * word_bits ≡ i * word_bits + word_bits = omega arith in
      let e : x * 2 ^ (suc i * word_bits) ≡ x * 2 ^ (i * word_bits) * 2 ^ word_bits + 0 = rw (d, pow-add 2 (i * word_bits) word_bits) (omega arith) in
      rw e (block word_bits (from_words ws) (x * 2 ^ (i * word_bits)) w 0 (words-head h) (lit< tt)
      ∙ ap₂ (λ (y z : ℕ). y * 2 ^ word_bits + z) (in-one-word none ws i x (words-rest h) k (omega arith)) (none w))

  -- and so one badge changes its word
  pub one-badge : ((a : ℕ) → f a 0 ≡ a) → (ws : List ℕ) (u : ℕ) → Words ws → u / word_bits < length ws
      → f (from_words ws) (only u) ≡ from_words (set ws (u / word_bits) (f (get_or ws (u / word_bits) 0) (only (u % word_bits))))
  unfolding only
  one-badge none ws u h l =
      let e : u / word_bits * word_bits + u % word_bits ≡ u = omega arith in
      let m : u % word_bits < word_bits = omega arith in
      ap (λ (v : ℕ). f (from_words ws) (only v)) (sym e) ∙ ap (f (from_words ws)) (sym (only-word (u / word_bits) (u % word_bits)))
      ∙ in-one-word none ws (u / word_bits) (2 ^ (u % word_bits)) h (pow-lt m) l

-- what is in both sets, in either, in the first alone, and in one of the two alone
module _ (vs ws : List ℕ) (e : length vs ≡ length ws) (h : Words vs) (k : Words ws) where
  pub words-intersection : intersection (from_words vs) (from_words ws) ≡ from_words (zip_with intersection vs ws)
  unfolding intersection
  words-intersection = word-by-word intersection and_block (and_zero_l 0) vs ws e h k

  pub words-union : union (from_words vs) (from_words ws) ≡ from_words (zip_with union vs ws)
  unfolding union
  words-union = word-by-word union or_block (or_zero_r 0) vs ws e h k

  pub words-difference : difference (from_words vs) (from_words ws) ≡ from_words (zip_with difference vs ws)
  words-difference = word-by-word difference difference-block (difference-none 0) vs ws e h k

  pub words-symmetric-difference : symmetric_difference (from_words vs) (from_words ws) ≡ from_words (zip_with symmetric_difference vs ws)
  unfolding symmetric_difference
  words-symmetric-difference = word-by-word symmetric_difference xor_block (xor_zero_l 0) vs ws e h k

-- one badge more, and one less
module _ (ws : List ℕ) (u : ℕ) (h : Words ws) (l : u / word_bits < length ws) where
  pub words-with : union (from_words ws) (only u) ≡ from_words (set ws (u / word_bits) (union (get_or ws (u / word_bits) 0) (only (u % word_bits))))
  unfolding union
  words-with = one-badge union or_block or_zero_r ws u h l

  pub words-without : difference (from_words ws) (only u) ≡ from_words (set ws (u / word_bits) (difference (get_or ws (u / word_bits) 0) (only (u % word_bits))))
  words-without = one-badge difference difference-block difference-none ws u h l

-- the size is the sum of the words' sizes
unfoldable pub sizes : List ℕ → ℕ
sizes [] = 0
sizes (w ∷ ws) = sizes ws + size w

pub words_size : (ws : List ℕ) → Words ws → size (from_words ws) ≡ sizes ws
unfolding from_words sizes
words_size [] h = size_none
words_size (w ∷ ws) h = size-block word_bits (from_words ws) w (words-head h) ∙ ap (λ (x : ℕ). x + size w) (words_size ws (words-rest h))

-- the words of the set of all badges below n, or of all that the words can hold
unfoldable pub full_words : ℕ → ℕ → List ℕ
full_words zero n = []
full_words (suc k) n = full (min n word_bits) ∷ full_words k (n - word_bits)

pub words-full : (k n : ℕ) → from_words (full_words k n) ≡ full (min n (k * word_bits))
unfolding from_words full_words full set_of
words-full zero n = let e : min n (0 * word_bits) ≡ 0 = omega arith in rw e
words-full (suc k) n = go (dec_lt n word_bits) (words-full k (n - word_bits))
  where
    go : Dec (n < word_bits) → from_words (full_words k (n - word_bits)) ≡ full (min (n - word_bits) (k * word_bits))
        → from_words (full_words k (n - word_bits)) * 2 ^ word_bits + full (min n word_bits) ≡ full (min n (suc k * word_bits))
    go (yes l) ih =
        let e : min (n - word_bits) (k * word_bits) ≡ 0 = omega arith in
        let a : min n word_bits ≡ n = omega arith in
        let b : min n (suc k * word_bits) ≡ n = omega arith in
        let z : from_words (full_words k (n - word_bits)) ≡ 0 = ih ∙ ap full e in
        rw (a, b, z) (omega arith)
    go (no f) ih =
        let a : min n word_bits ≡ word_bits = omega arith in
        let b : min n (suc k * word_bits) ≡ word_bits + min (n - word_bits) (k * word_bits) = omega arith in
        rw (a, b, ih) (sym (full_block word_bits (min (n - word_bits) (k * word_bits))))
