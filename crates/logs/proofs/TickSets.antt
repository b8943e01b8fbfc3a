-- Laws of sets of ticks, and of the first number that passes a test.
use mathlib.Core.Path.{◌≡◌, refl, ap, ◌∙◌}
use mathlib.Core.Bool.{Bool, true, false}
use Prim.Native.Nat.{ℕ, ◌+◌, ◌-◌, ◌^◌, ◌≤◌, ◌<◌}
use native.Mathlib.Nat.{mod-eq_of_lt}
use native.Mathlib.Omega.{arith}
use lib.Bits.{and_comm, and_mask}
use lib.Dec.{ltb}
use borrow.Author.Tests.{ltb-true, ltb-false, lt-ltb, le-ltb}
use Rattle.sets.specs.Bools.{isnt}
use Rattle.sets.specs.Sets.{has, full, difference, smallest}
use Rattle.sets.specs.Words.{word_bits}
use Rattle.sets.proofs.Bools.{to-false, same_test, isnt-in, isnt-of}
use Rattle.sets.proofs.Sets.{in-test, has-test, in-difference, of-difference, full-suc, in-full, of-full}
use Rattle.sets.proofs.Smallest.{smallest-le, smallest-in, smallest-first}
use Rattle.logs.specs.declared.ticks.TickSet.{TickSet}
use Rattle.logs.specs.TickSets.{has_tick, tick_capacity, First}

-- the first member of a set of numbers below w that is not below from
module _ (w s from : ℕ) (h : from ≤ w) where
  pub first_member : First (has s) from w (smallest w (difference s (full from)))
  first_member = record {
    low = go (ltb r w) refl;
    high = smallest-le w d;
    passes = λ l. has-test s r (of-difference s (full from) r (smallest-in w d l)).0;
    none = λ t a b. to-false _ (λ e. let k = smallest-first w d t (in-difference s (full from) t (in-test s t e) (λ i. let q = of-full from t i in omega arith)) (omega (arith, smallest-le w d)) in omega arith);
  }
    where
      d : ℕ
      d = difference s (full from)

      r : ℕ
      r = smallest w d

      go : (b : Bool) → ltb r w ≡ b → from ≤ r
      go true e = low (ltb r from) refl (ltb-true _ _ e)
        where
          low : (b : Bool) → ltb r from ≡ b → r < w → from ≤ r
          low true f l = absurd ((of-difference s (full from) r (smallest-in w d l)).1 (in-full from r (ltb-true _ _ f)))
          low false f l = ltb-false _ _ f
      go false e = let k : w ≤ r = ltb-false _ _ e in omega arith

-- the numbers below w that are not in a set: all ones less the set
pub all_but : (w s : ℕ) → s < 2 ^ w → difference (full w) s ≡ 2 ^ w - 1 - s
unfolding difference
all_but w s h =
    let f : full w ≡ 2 ^ w - 1 = omega (arith, full-suc w) in
    rw (f, and_comm (2 ^ w - 1) s, and_mask s w, mod-eq_of_lt h)

pub has-complement : (w s t : ℕ) → t < w → has (difference (full w) s) t ≡ isnt (has s t)
has-complement w s t h = same_test _ _
    (λ e. isnt-in _ (λ f. (of-difference (full w) s t (in-test _ t e)).1 (in-test s t f)))
    (λ e. has-test _ t (in-difference (full w) s t (in-full w t h) (λ i. isnt-of _ e (has-test s t i))))

-- a tick is in a set of ticks by its low word or by its high word
module _ (s : TickSet) where
  pub has-low : (t : ℕ) → t < word_bits → has_tick s t ≡ has s.low t
  unfolding has_tick
  has-low t h = rw (lt-ltb t word_bits h, has_tick)

  pub has-high : (t : ℕ) → word_bits ≤ t → has_tick s t ≡ has s.high (t - word_bits)
  unfolding has_tick
  has-high t h = rw (le-ltb t word_bits h, has_tick)

  -- the first tick of a set: from a tick of the high word on, in the low word, and in the high word where the low one has none
  pub first-high : (from r : ℕ) → word_bits ≤ from → First (has s.high) (from - word_bits) word_bits r → First (has_tick s) from tick_capacity (word_bits + r)
  first-high from r h f = record {
    low = omega (arith, f.low);
    high = omega (arith, f.high);
    passes = λ l. let e : word_bits + r - word_bits ≡ r = omega arith in has-high (word_bits + r) (omega arith) ∙ ap (has s.high) e ∙ f.passes (omega arith);
    none = λ t a b. has-high t (omega arith) ∙ f.none (t - word_bits) (omega arith) (omega arith);
  }

  pub first-low : {from r : ℕ} → r < word_bits → First (has s.low) from word_bits r → First (has_tick s) from tick_capacity r
  first-low {from} {r} h f = record {
    low = f.low;
    high = omega arith;
    passes = λ l. has-low r h ∙ f.passes h;
    none = λ t a b. has-low t (omega arith) ∙ f.none t a b;
  }

  pub first-both : {from k : ℕ} (r : ℕ) → word_bits ≤ k → First (has s.low) from word_bits k → First (has s.high) 0 word_bits r → First (has_tick s) from tick_capacity (word_bits + r)
  first-both {from} {k} r h f g = record {
    low = omega (arith, f.low, f.high);
    high = rest.high;
    passes = rest.passes;
    none = λ t a b. go t a b (ltb t word_bits) refl;
  }
    where
      rest : First (has_tick s) word_bits tick_capacity (word_bits + r)
      rest = first-high word_bits r (omega arith) g

      go : (t : ℕ) → from ≤ t → t < word_bits + r → (b : Bool) → ltb t word_bits ≡ b → has_tick s t ≡ false
      go t a b true e = let l : t < word_bits = ltb-true _ _ e in has-low t l ∙ f.none t a (omega (arith, f.high))
      go t a b false e = rest.none t (ltb-false _ _ e) b

-- the first number depends on the test below the end alone
pub first-same : (p q : ℕ → Bool) {from until r : ℕ} → ((t : ℕ) → t < until → q t ≡ p t) → First p from until r → First q from until r
first-same p q {from} {until} {r} e f = record {
  low = f.low;
  high = f.high;
  passes = λ l. e r l ∙ f.passes l;
  none = λ t a b. e t (omega (arith, f.high)) ∙ f.none t a b;
}

-- the ticks that are not in a set
pub has-others : (s others : TickSet) → others.low ≡ difference (full word_bits) s.low → others.high ≡ difference (full word_bits) s.high
    → (t : ℕ) → t < tick_capacity → isnt (has_tick s t) ≡ has_tick others t
has-others s others e f t h = go (ltb t word_bits) refl
  where
    go : (b : Bool) → ltb t word_bits ≡ b → isnt (has_tick s t) ≡ has_tick others t
    go true c = let l : t < word_bits = ltb-true _ _ c in rw (has-low s t l, has-low others t l, e, has-complement word_bits s.low t l)
    go false c = let l : word_bits ≤ t = ltb-false _ _ c in rw (has-high s t l, has-high others t l, f, has-complement word_bits s.high (t - word_bits) (omega arith))
