-- Laws of one word of the set at a place: where an operation changes one word of a set, it is stored by one word.
use mathlib.Core.Path.{◌≡◌, sym, ap, ◌∙◌}
use mathlib.Core.List.{List, ◌++◌, append_assoc}
use mathlib.Core.Logic.{by_cases}
use Prim.Native.Nat.{ℕ, ◌+◌, ◌*◌, ◌/◌, ◌%◌, ◌^◌, ◌≤◌, ◌<◌}
use native.Mathlib.Decide.{ℕ_discrete}
use native.Mathlib.Omega.{arith}
use lib.Bits.{bit_or, bit_xor, or_block, or_zero_r, or_lt, xor_block, xor_zero_r, xor_lt}
use lib.ListN.{length, get_or, set, take, drop, length-set}
use lib.Pow.{pow-lt}
use lib.Seq.{sets, sets-eq, drop-drop, get_or-set_same, get_or-set_other}
use borrow.Rule.Slice.PartMut.{set_mid_at}
use Rattle.sets.specs.Sets.{union, symmetric_difference, only}
use Rattle.sets.specs.Words.{word_bits, Words, from_words, to_words, in_word, lower_words, set_words, places, words_at, set_at, put_set}
use Rattle.sets.specs.Members.{capacity}
use Rattle.sets.proofs.Words.{to-from-words}
use Rattle.sets.proofs.InWord.{only-word}
use Rattle.sets.proofs.WordByWord.{in-one-word}
use Rattle.sets.proofs.Places.{set-at-in, at_length, at-word, at_words, put_in}

-- another word at a place of a list of words
pub words-set : (ws : List ℕ) (i w : ℕ) → Words ws → w < 2 ^ word_bits → Words (set ws i w)
words-set ws i w h l = record {
  at = λ j k. by_cases (ℕ_discrete j i)
      (λ e. let m : i < length ws = omega (arith, length-set ws i w) in rw (e, get_or-set_same ws i w 0 m) l)
      (λ f. rw (get_or-set_other ws i j w 0 f) (h.at j (omega (arith, length-set ws i w))));
}

-- a run of stores that changes one element alone stores that element
run-one : (ws : List ℕ) (a k j x : ℕ) → length (take k (drop a ws)) ≡ k → a + k ≤ length ws → j < k → sets ws a (set (take k (drop a ws)) j x) ≡ set ws (a + j) x
run-one ws a k j x size h l =
    let new = set (take k (drop a ws)) j x in
    let e : length new ≡ k = length-set (take k (drop a ws)) j x ∙ size in
    sets-eq new ws a (rw e h)
    ∙ append_assoc (take a ws) new (drop (a + length new) ws)
    ∙ ap (λ (y : List ℕ). take a ws ++ (new ++ y)) (ap (λ (y : ℕ). drop (a + y) ws) e ∙ sym (drop-drop k a ws))
    ∙ set_mid_at a k j ws x (rw size l)

-- An operation on sets that works part by part, and that the empty set does not change: with the badges of one word it changes that word.
module _ (f : ℕ → ℕ → ℕ) (block : (k a b r s : ℕ) → r < 2 ^ k → s < 2 ^ k → f (a * 2 ^ k + r) (b * 2 ^ k + s) ≡ f a b * 2 ^ k + f r s) (none : (a : ℕ) → f a 0 ≡ a) where
  pub put-one-word : (ws : List ℕ) (i j y : ℕ) → Words ws → i < places ws → j < set_words → y < 2 ^ word_bits → f (get_or ws (i * set_words + j) 0) y < 2 ^ word_bits
      → set ws (i * set_words + j) (f (get_or ws (i * set_words + j) 0) y) ≡ put_set ws i (f (set_at ws i) (in_word j y))
  put-one-word ws i j y w h l k b =
      let vs = words_at ws i in
      let size = at_length ws i h in
      let word : get_or vs j 0 ≡ get_or ws (i * set_words + j) 0 = at-word ws i j l in
      let x = f (get_or vs j 0) y in
      let small : x < 2 ^ word_bits = rw word b in
      let new : f (set_at ws i) (in_word j y) ≡ from_words (set vs j x) =
      ap (λ (s : ℕ). f s (in_word j y)) (set-at-in ws i h) ∙ in-one-word f block none vs j y (at_words ws i h w) k (omega arith) in
      let words : to_words lower_words (f (set_at ws i) (in_word j y)) ≡ set vs j x =
      ap (to_words lower_words) new ∙ to-from-words lower_words (set vs j x) (length-set vs j x ∙ size) (words-set vs j x (at_words ws i h w) small) in
      sym (put_in ws i (f (set_at ws i) (in_word j y)) h ∙ ap (sets ws (i * set_words)) words ∙ run-one ws (i * set_words) set_words j x size (omega arith) l
      ∙ ap (λ (z : ℕ). set ws (i * set_words + j) (f z y)) word)

-- so badges change in the set at a place where one word changes, and a badge is put into it by one word
pub toggle-word : (ws : List ℕ) (i j y : ℕ) → Words ws → i < places ws → j < set_words → y < 2 ^ word_bits
    → set ws (i * set_words + j) (bit_xor (get_or ws (i * set_words + j) 0) y) ≡ put_set ws i (symmetric_difference (set_at ws i) (in_word j y))
unfolding symmetric_difference
toggle-word ws i j y w h l k = put-one-word symmetric_difference xor_block xor_zero_r ws i j y w h l k (xor_lt word_bits _ _ (w.at (i * set_words + j) (omega arith)) k)

pub insert-word : (ws : List ℕ) (i u : ℕ) → Words ws → i < places ws → u < capacity
    → set ws (i * set_words + u / word_bits) (bit_or (get_or ws (i * set_words + u / word_bits) 0) (2 ^ (u % word_bits))) ≡ put_set ws i (union (set_at ws i) (only u))
unfolding union
insert-word ws i u w h l =
    let m : u % word_bits < word_bits = omega arith in
    let e : u / word_bits * word_bits + u % word_bits ≡ u = omega arith in
    put-one-word union or_block or_zero_r ws i (u / word_bits) (2 ^ (u % word_bits)) w h (omega arith) (pow-lt m) (or_lt word_bits _ _ (w.at (i * set_words + u / word_bits) (omega arith)) (pow-lt m))
    ∙ ap (λ (s : ℕ). put_set ws i (union (set_at ws i) s)) (only-word (u / word_bits) (u % word_bits) ∙ ap only e)
