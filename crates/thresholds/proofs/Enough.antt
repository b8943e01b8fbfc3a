-- Laws of thresholds: of which numbers the ranges are, and which numbers are enough.
use mathlib.Core.Path.{◌≡◌}
use mathlib.Core.Bool.{true}
use Prim.Native.Nat.{ℕ, ◌-◌, ◌≤◌}
use borrow.Author.Tests.{leb-true, le-leb}
use Rattle.sets.proofs.Bools.{and_in, and_left, and_right}
use Rattle.records.specs.Limits.{max_badges, max_ticks}
use Rattle.thresholds.specs.declared.Thresholds.{Thresholds}
use Rattle.thresholds.specs.Ranges.{in_range, are_enough}

module _ (least : Thresholds) where
  -- three numbers are enough exactly when none is below its threshold
  pub enough-in : {ticks order members : ℕ} → least.ticks ≤ ticks → least.order ≤ order → least.members ≤ members → are_enough least ticks order members ≡ true
  unfolding are_enough
  enough-in h k m = and_in _ _ (and_in _ _ (le-leb _ _ h) (le-leb _ _ k)) (le-leb _ _ m)

  pub enough-of : {ticks order members : ℕ} → are_enough least ticks order members ≡ true → (least.ticks ≤ ticks) × (least.order ≤ order) × (least.members ≤ members)
  unfolding are_enough
  enough-of e = let p = and_left _ _ e in (leb-true _ _ (and_left _ _ p), leb-true _ _ (and_right _ _ p), leb-true _ _ (and_right _ _ e))

-- the test for the ranges passes exactly when the three numbers are within them
pub record Ranges (least : Thresholds) : Type 0 where
  pub ticks_low : 1 ≤ least.ticks
  pub ticks_high : least.ticks ≤ max_ticks
  pub order_low : 1 ≤ least.order
  pub order_high : least.order ≤ max_badges - 1
  pub members_low : 2 ≤ least.members
  pub members_high : least.members ≤ max_badges

pub ranges-of : (least : Thresholds) → in_range least ≡ true → Ranges least
unfolding in_range
ranges-of least e =
    let p = and_left _ _ e in
    let a = and_left _ _ p in
    let b = and_right _ _ p in
    let c = and_right _ _ e in
    record {
      ticks_low = leb-true _ _ (and_left _ _ a);
      ticks_high = leb-true _ _ (and_right _ _ a);
      order_low = leb-true _ _ (and_left _ _ b);
      order_high = leb-true _ _ (and_right _ _ b);
      members_low = leb-true _ _ (and_left _ _ c);
      members_high = leb-true _ _ (and_right _ _ c);
    }

pub ranges_in : (least : Thresholds) → Ranges least → in_range least ≡ true
unfolding in_range
ranges_in least r =
    and_in _ _ (and_in _ _ (and_in _ _ (le-leb _ _ r.ticks_low) (le-leb _ _ r.ticks_high)) (and_in _ _ (le-leb _ _ r.order_low) (le-leb _ _ r.order_high)))
    (and_in _ _ (le-leb _ _ r.members_low) (le-leb _ _ r.members_high))
