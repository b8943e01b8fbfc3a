-- Laws of a set in words, for any number of words: which bit of which word a badge is, the bound of a set, and when it is empty or a subset of another.
-- The words of a set and the set of words are inverse.
use mathlib.Core.Path.{◌≡◌, refl, sym, ap, ◌∙◌}
use mathlib.Core.List.{List, [], ◌∷◌}
use Prim.Native.Nat.{ℕ, zero, suc, ◌+◌, ◌-◌, ◌*◌, ◌/◌, ◌%◌, ◌^◌, ◌<◌, zero-le, suc-le-suc}
use native.Mathlib.Nat.{le_of_suc-le-suc, not-suc-le-zero, mod-lt}
use native.Mathlib.Decide.{dec_lt}
use native.Mathlib.Omega.{arith}
use lib.Dec.{lit<}
use lib.ListN.{length, get_or, take, drop, get_or-eq_default}
use lib.Pow.{high, low, split, pow-add}
use Rattle.sets.specs.Sets.{bit, In, Sub}
use Rattle.sets.specs.Words.{word_bits, Words, from_words, to_words}
use Rattle.sets.proofs.Bits.{bit-none}
use Rattle.sets.proofs.Sets.{not-in-none, in-lt}
use Rattle.sets.proofs.Blocks.{bit-low, bit_high}

-- the empty list is a list of words; another is when its first element is a word and the rest is a list of words
pub words-nil : Words []
words-nil = record { at = λ i h. absurd (not-suc-le-zero h) }

pub words-cons : {w : ℕ} {ws : List ℕ} → w < 2 ^ word_bits → Words ws → Words (w ∷ ws)
words-cons {w} {ws} l h = record { at = go }
  where
    go : (i : ℕ) → i < length (w ∷ ws) → get_or (w ∷ ws) i 0 < 2 ^ word_bits
    go zero k = l
    go (suc i) k = h.at i (le_of_suc-le-suc k)

pub words-head : {w : ℕ} {ws : List ℕ} → Words (w ∷ ws) → w < 2 ^ word_bits
words-head h = h.at 0 (suc-le-suc zero-le)

pub words-rest : {w : ℕ} {ws : List ℕ} → Words (w ∷ ws) → Words ws
words-rest h = record { at = λ i k. h.at (suc i) (suc-le-suc k) }

-- the first words of a list
pub words_take : (m : ℕ) {ws : List ℕ} → Words ws → Words (take m ws)
words_take zero h = words-nil
words_take (suc m) {ws = []} h = h
words_take (suc m) {ws = w ∷ ws} h = words-cons (words-head h) (words_take m (words-rest h))

-- and those after so many
pub words-drop : (m : ℕ) {ws : List ℕ} → Words ws → Words (drop m ws)
words-drop zero h = h
words-drop (suc m) {ws = []} h = h
words-drop (suc m) {ws = w ∷ ws} h = words-drop m (words-rest h)

-- badge u is bit u % 64 of word u / 64
pub words-bit : (ws : List ℕ) (u : ℕ) → Words ws → bit (from_words ws) u ≡ bit (get_or ws (u / word_bits) 0) (u % word_bits)
unfolding from_words
words-bit [] u h = bit-none u ∙ sym (bit-none (u % word_bits))
words-bit (w ∷ ws) u h = go (dec_lt u word_bits) (words-bit ws (u - word_bits) (words-rest h))
  where
    go : Dec (u < word_bits) → bit (from_words ws) (u - word_bits) ≡ bit (get_or ws ((u - word_bits) / word_bits) 0) ((u - word_bits) % word_bits)
        → bit (from_words ws * 2 ^ word_bits + w) u ≡ bit (get_or (w ∷ ws) (u / word_bits) 0) (u % word_bits)
    go (yes l) ih =
        let q : u / word_bits ≡ 0 = omega arith in
        let r : u % word_bits ≡ u = omega arith in
        rw (q, r) (bit-low word_bits (from_words ws) w u l)
    go (no f) ih =
        let e : u ≡ word_bits + (u - word_bits) = omega arith in
        let q : u / word_bits ≡ suc ((u - word_bits) / word_bits) = omega arith in
        let r : u % word_bits ≡ (u - word_bits) % word_bits = omega arith in
        rw (q, r) (ap (bit (from_words ws * 2 ^ word_bits + w)) e ∙ bit_high word_bits (from_words ws) w (u - word_bits) (words-head h) ∙ ih)

-- the set of k words is below 2 ^ 64k
pow_more : (k : ℕ) → 2 ^ (suc k * word_bits) ≡ 2 ^ (k * word_bits) * 2 ^ word_bits
pow_more k = let e : suc k * word_bits ≡ k * word_bits + word_bits = omega arith in rw e (pow-add 2 (k * word_bits) word_bits)

pub words-lt : (ws : List ℕ) → Words ws → from_words ws < 2 ^ (length ws * word_bits)
unfolding from_words
words-lt [] h = omega arith
words-lt (w ∷ ws) h = rw (pow_more (length ws)) (omega (arith, words-lt ws (words-rest h), words-head h))

-- a set is empty exactly when every word is 0
pub words-none : (ws : List ℕ) → ((i : ℕ) → i < length ws → get_or ws i 0 ≡ 0) → from_words ws ≡ 0
unfolding from_words
words-none [] h = refl
words-none (w ∷ ws) h = omega (arith, words-none ws (λ i l. h (suc i) (suc-le-suc l)), h 0 (suc-le-suc zero-le))

pub none-words : (ws : List ℕ) → from_words ws ≡ 0 → (i : ℕ) → i < length ws → get_or ws i 0 ≡ 0
unfolding from_words
none-words [] e i l = absurd (not-suc-le-zero l)
none-words (w ∷ ws) e zero l = omega arith
none-words (w ∷ ws) e (suc i) l = none-words ws (omega arith) i (le_of_suc-le-suc l)

-- a set is a subset of another exactly when each of its words is one of the other's word
module _ (vs ws : List ℕ) (h : Words vs) (k : Words ws) where
  pub words-sub : ((i : ℕ) → i < length vs → Sub (get_or vs i 0) (get_or ws i 0)) → Sub (from_words vs) (from_words ws)
  words-sub f = record { at = λ u i. words-bit ws u k ∙ go u (dec_lt (u / word_bits) (length vs)) (sym (words-bit vs u h) ∙ i) }
    where
      go : (u : ℕ) → Dec (u / word_bits < length vs) → In (get_or vs (u / word_bits) 0) (u % word_bits) → In (get_or ws (u / word_bits) 0) (u % word_bits)
      go u (yes l) i = (f (u / word_bits) l).at (u % word_bits) i
      go u (no g) i = absurd (not-in-none (u % word_bits) (rw (get_or-eq_default vs 0 {n = u / word_bits} (omega arith)) at i))

  pub sub_words : Sub (from_words vs) (from_words ws) → (i : ℕ) → i < length vs → Sub (get_or vs i 0) (get_or ws i 0)
  sub_words s i l = record {
    at = λ u m.
        let b : u < word_bits = in-lt word_bits (get_or vs i 0) u (h.at i l) m in
        let q : (i * word_bits + u) / word_bits ≡ i = omega arith in
        let r : (i * word_bits + u) % word_bits ≡ u = omega arith in
        let p : bit (get_or ws ((i * word_bits + u) / word_bits) 0) ((i * word_bits + u) % word_bits) ≡ 1 =
        sym (words-bit ws (i * word_bits + u) k) ∙ s.at (i * word_bits + u) (words-bit vs (i * word_bits + u) h ∙ rw (q, r) m) in
        rw (q, r) at p;
  }

-- the words of a set are as many as are asked for, one more than come before the last
pub length-to-words : (k s : ℕ) → length (to_words k s) ≡ suc k
unfolding to_words
length-to-words zero s = refl
length-to-words (suc k) s = ap suc (length-to-words k (s / 2 ^ word_bits))

-- each is a word where the set has no badge that they have no room for
pub to-words-words : (k s : ℕ) → s < 2 ^ (suc k * word_bits) → Words (to_words k s)
unfolding to_words
to-words-words zero s h = words-cons h words-nil
to-words-words (suc k) s h =
    let l : s < 2 ^ (suc k * word_bits) * 2 ^ word_bits = rw (pow_more (suc k)) at h in
    words-cons (mod-lt s (lit< tt)) (to-words-words k (s / 2 ^ word_bits) (omega arith))

-- the words of a set hold the set
pub from-to-words : (k s : ℕ) → from_words (to_words k s) ≡ s
unfolding from_words to_words
from-to-words zero s = omega arith
from-to-words (suc k) s = ap (λ (x : ℕ). x * 2 ^ word_bits + s % 2 ^ word_bits) (from-to-words k (s / 2 ^ word_bits)) ∙ split s word_bits

-- and words are those of the set that they hold
pub to-from-words : (k : ℕ) (ws : List ℕ) → length ws ≡ suc k → Words ws → to_words k (from_words ws) ≡ ws
unfolding from_words to_words
to-from-words k [] e h = absurd (omega arith)
to-from-words zero (w ∷ []) e h = let f : 0 * 2 ^ word_bits + w ≡ w = omega arith in rw f
to-from-words zero (w ∷ (v ∷ ws)) e h = absurd (omega arith)
to-from-words (suc k) (w ∷ ws) e h =
    let l = words-head h in
    rw (low (from_words ws) word_bits l, high (from_words ws) word_bits l, to-from-words k ws (omega arith) (words-rest h))
