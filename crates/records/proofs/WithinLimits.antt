-- Laws of the limits: the test passes exactly when n and T are within them, and a day within them takes at most 24,576 words.
use mathlib.Core.Path.{◌≡◌}
use mathlib.Core.Bool.{true}
use Prim.Native.Nat.{ℕ, ◌≤◌}
use native.Mathlib.Nat.{mul-le-mul}
use native.Mathlib.Omega.{arith}
use borrow.Author.Tests.{leb-true, le-leb}
use Rattle.sets.proofs.Bools.{and_in, and_left, and_right}
use Rattle.records.specs.Limits.{max_badges, max_ticks, within_limits, words_for, max_words}

-- n and T are within their limits
pub record Limits (n T : ℕ) : Type 0 where
  pub some : 1 ≤ n
  pub few : n ≤ max_badges
  pub long : 1 ≤ T
  pub short : T ≤ max_ticks

-- the test for the limits passes exactly when n and T are within them
pub limits_of : {n T : ℕ} → within_limits n T ≡ true → Limits n T
unfolding within_limits
limits_of {n} {T} e =
    let p = and_left _ _ e in
    let q = and_left _ _ p in
    record {
      some = leb-true _ _ (and_left _ _ q);
      few = leb-true _ _ (and_right _ _ q);
      long = leb-true _ _ (and_right _ _ p);
      short = leb-true _ _ (and_right _ _ e);
    }

pub limits-in : {n T : ℕ} → Limits n T → within_limits n T ≡ true
unfolding within_limits
limits-in {n} {T} l =
    and_in _ _ (and_in _ _ (and_in _ _ (le-leb _ _ l.some) (le-leb _ _ l.few)) (le-leb _ _ l.long)) (le-leb _ _ l.short)

-- both together, by which each answer of the test is found
pub ruleset within = (limits_of, limits-in)

-- within the limits a day takes at most 96 × 128 sets
pub words-most : (n T : ℕ) → Limits n T → words_for n T ≤ max_words
words-most n T l = omega (arith, mul-le-mul l.short l.few)
