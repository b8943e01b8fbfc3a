-- Laws of badges under review: the test says what statements ask, and all badges of a day are a review.
use mathlib.Core.Path.{◌≡◌}
use mathlib.Core.Bool.{true}
use mathlib.Core.List.{List}
use Prim.Native.Nat.{ℕ}
use borrow.Author.Tests.{ltb-true, lt-ltb}
use Rattle.sets.specs.Sets.{full}
use Rattle.sets.proofs.Bools.{and_in, and_left, and_right}
use Rattle.sets.proofs.Sets.{in-full, sub_refl, is-sub-in, is-sub-of}
use Rattle.records.proofs.WithinLimits.{limits_of}
use Rattle.days.specs.Days.{LentDay}
use Rattle.cores.proofs.Orders.{member-pos}
use Rattle.spans.specs.Reviews.{is_review, Review}

pub review-in : {n base : ℕ} → Review n base → is_review n base ≡ true
unfolding is_review
review-in r = and_in _ _ (lt-ltb _ _ r.some) (is-sub-in r.named)

pub review-of : (n base : ℕ) → is_review n base ≡ true → Review n base
unfolding is_review
review-of n base e = record { some = ltb-true _ _ (and_left _ _ e); named = is-sub-of _ _ (and_right _ _ e) }

-- all n badges of a day
pub all-reviewed : {n T : ℕ} {ws : List ℕ} → LentDay n T ws → Review n (full n)
all-reviewed {n} d = record { some = member-pos (full n) 0 (in-full n 0 (limits_of d.limits).some); named = sub_refl (full n) }
