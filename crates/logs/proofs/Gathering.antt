-- Laws of the columns of a badge: for each larger one, the ticks in which they meet.
use mathlib.Core.Path.{◌≡◌, refl, ap, ◌∙◌, sym}
use mathlib.Core.Bool.{Bool, true, false}
use mathlib.Core.List.{List}
use Prim.Native.Nat.{ℕ, ◌+◌, ◌-◌, ◌≤◌, ◌<◌, min, ◌^◌}
use native.Mathlib.Omega.{arith}
use lib.Dec.{ltb}
use lib.ListN.{get_or, replicate, get_or-replicate}
use borrow.Author.Tests.{ltb-true, ltb-false}
use Rattle.sets.specs.Sets.{has, set_of, union, difference, only, full, bit}
use Rattle.sets.specs.Members.{capacity}
use Rattle.sets.specs.Words.{word_bits, lower_words, to_words, in_word}
use Rattle.sets.specs.Tables.{piecewise}
use Rattle.sets.proofs.Bools.{same_test, to-false}
use Rattle.sets.proofs.Sets.{in-test, has-test, out-test, in-set, of-set, of-set-lt, of-difference, in-difference, of-full, set-yes, set-no}
use Rattle.sets.proofs.Tables.{tabulate-length, tabulate-at, piecewise-in, piecewise-out, tabulate-same, piecewise_same}
use Rattle.days.specs.Days.{neighbours, adjacent}
use Rattle.logs.specs.declared.ticks.TickSet.{TickSet}
use Rattle.logs.specs.TickSets.{tick_capacity, has_tick, TicksBelow, united, Columns}
use Rattle.logs.proofs.TickSets.{has-low, has-high}
use mathlib.Core.Logic.{by_cases}
use native.Mathlib.Decide.{ℕ_discrete, dec_lt}
use Rattle.sets.proofs.InWord.{word-has, word_of}

-- a set of the numbers below m that pass a test has those and no other
has-set : (m : ℕ) (p : ℕ → Bool) (t : ℕ) → t < m → has (set_of m p) t ≡ p t
has-set m p t h = same_test _ _ (λ e. of-set m p t (in-test _ t e)) (λ e. has-test _ t (in-set m p t h e))

has-none : (m : ℕ) (p : ℕ → Bool) (t : ℕ) → m ≤ t → has (set_of m p) t ≡ false
has-none m p t h = to-false _ (λ e. let l = of-set-lt m p t (in-test _ t e) in omega arith)

-- bits added to the columns of the badges of a set, word by word
pub united-words : (table : List ℕ) (s bits : ℕ) → s < 2 ^ capacity
    → united (united table (in_word 0 (get_or (to_words lower_words s) 0 0)) bits) (in_word 1 (get_or (to_words lower_words s) 1 0)) bits ≡ united table s bits
unfolding united
united-words table s bits h = tabulate-same capacity _ _ (λ v l. by_cases (ℕ_discrete (bit high v) 1)
    (λ i.
    let x = word_of s h 1 v i in
    piecewise-in high _ _ v i
    ∙ ap (λ (y : ℕ). union y bits) (tabulate-at capacity _ v l ∙ piecewise-out low f g v (λ j. let y = word_of s h 0 v j in omega (arith, x.0, y.0)))
    ∙ sym (piecewise-in s f g v x.1))
    (λ k.
    piecewise-out high _ _ v k ∙ tabulate-at capacity _ v l
    ∙ piecewise_same low s f g v (λ j. (word_of s h 0 v j).1)
    (λ j. word-has s h 0 v j (by_cases (dec_lt v word_bits) (λ m. omega arith) (λ m. absurd (k (word-has s h 1 v j (omega arith))))))))
  where
    low : ℕ
    low = in_word 0 (get_or (to_words lower_words s) 0 0)

    high : ℕ
    high = in_word 1 (get_or (to_words lower_words s) 1 0)

    f : ℕ → ℕ
    f = λ v. union (get_or table v 0) bits

    g : ℕ → ℕ
    g = λ v. get_or table v 0

module _ (n : ℕ) (ws : List ℕ) (u from : ℕ) where
  -- before the first tick all columns are empty
  pub columns-none : Columns n ws u from 0 (replicate capacity 0)
  unfolding set_of
  columns-none = record { whole = refl; at = λ v a b. get_or-replicate capacity v 0 0 b }

  -- one tick more
  pub columns-more : (t : ℕ) {table : List ℕ} → Columns n ws u from t table
      → Columns n ws u from (t + 1) (united table (difference (neighbours n ws (from + t) u) (full (u + 1))) (only t))
  unfolding united adjacent
  columns-more t {table} c = record {
    whole = tabulate-length capacity _;
    at = λ v a b. tabulate-at capacity _ v b ∙ go v a b (has (neighbours n ws (from + t) u) v) refl;
  }
    where
      row : ℕ
      row = neighbours n ws (from + t) u

      f : ℕ → ℕ
      f = λ v. union (get_or table v 0) (only t)

      g : ℕ → ℕ
      g = λ v. get_or table v 0

      go : (v : ℕ) → u < v → v < capacity → (b : Bool) → has row v ≡ b → piecewise (difference row (full (u + 1))) f g v ≡ set_of (t + 1) (λ t. adjacent n ws (from + t) u v)
      go v a b true e = piecewise-in _ f g v (in-difference row _ v (in-test row v e) (λ i. let l = of-full (u + 1) v i in omega arith))
          ∙ ap (λ (x : ℕ). union x (only t)) (c.at v a b) ∙ set-yes t (λ t. adjacent n ws (from + t) u v) e
      go v a b false e = piecewise-out _ f g v (λ i. out-test row v e (of-difference row _ v i).0)
          ∙ c.at v a b ∙ set-no t (λ t. adjacent n ws (from + t) u v) e

-- The ticks of which the low and the high columns of u and v say that they meet are those of the day in which they do.
module _ (n T : ℕ) (ws : List ℕ) (u v : ℕ) {lows highs : List ℕ} (s : TickSet) (h : T ≤ tick_capacity) (k : u < v) (l : v < capacity)
    (low : Columns n ws u 0 (min word_bits (T - 0)) lows) (high : Columns n ws u word_bits (min word_bits (T - word_bits)) highs)
    (e : s.low ≡ get_or lows v 0) (f : s.high ≡ get_or highs v 0) where
  tick-low : (t : ℕ) → t < word_bits → has_tick s t ≡ has (set_of (min word_bits (T - 0)) (λ t. adjacent n ws (0 + t) u v)) t
  tick-low t a = has-low s t a ∙ ap (λ (x : ℕ). has x t) (e ∙ low.at v k l)

  tick-high : (t : ℕ) → word_bits ≤ t → has_tick s t ≡ has (set_of (min word_bits (T - word_bits)) (λ t. adjacent n ws (word_bits + t) u v)) (t - word_bits)
  tick-high t a = has-high s t a ∙ ap (λ (x : ℕ). has x (t - word_bits)) (f ∙ high.at v k l)

  pub tick-in : (t : ℕ) → t < T → has_tick s t ≡ adjacent n ws t u v
  tick-in t a = go (ltb t word_bits) refl
    where
      go : (b : Bool) → ltb t word_bits ≡ b → has_tick s t ≡ adjacent n ws t u v
      go true c = let b : t < word_bits = ltb-true _ _ c in
          let z : 0 + t ≡ t = omega arith in
          tick-low t b ∙ has-set _ _ t (omega arith) ∙ ap (λ (x : ℕ). adjacent n ws x u v) z
      go false c = let b : word_bits ≤ t = ltb-false _ _ c in
          let z : word_bits + (t - word_bits) ≡ t = omega arith in
          tick-high t b ∙ has-set _ _ (t - word_bits) (omega arith) ∙ ap (λ (x : ℕ). adjacent n ws x u v) z

  pub tick-below : TicksBelow T s
  tick-below = record { at = λ t a. go t a (ltb t word_bits) refl }
    where
      go : (t : ℕ) → T ≤ t → (b : Bool) → ltb t word_bits ≡ b → has_tick s t ≡ false
      go t a true c = let b : t < word_bits = ltb-true _ _ c in tick-low t b ∙ has-none _ _ t (omega arith)
      go t a false c = let b : word_bits ≤ t = ltb-false _ _ c in tick-high t b ∙ has-none _ _ (t - word_bits) (omega arith)
