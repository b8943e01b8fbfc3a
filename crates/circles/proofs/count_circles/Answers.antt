-- `count_circles` meets its contract. The circles counted with those of the members that are left are those of the set. The walk ends as the
-- members that are left get fewer.
use mathlib.Core.Path.{◌≡◌, ap, ◌∙◌}
use mathlib.Core.List.{[], ◌∷◌}
use mathlib.Core.Bool.{not}
use Prim.Native.Nat.{◌^◌, ◌<◌}
use native.Mathlib.Omega.{arith}
use lib.Dec.{leb}
use lib.ListN.{length}
use Rattle.circles.specs.Circles.{at_least}
use Rattle.sets.specs.Members.{capacity, members}
use Rattle.sets.proofs.Pairs.{members-lt}
use Rattle.sets.proofs.Walks.{none-unseen}
use Rattle.circles.proofs.Counting.{circle-counts, one-most, count-start, count-few, count-more, count_less, count-end, some_left}
use Rattle.circles.proofs.count_circles.Goals as goal
use Rattle.circles.proofs.count_circles.Goals.{Start}

-- the set holds badges below the capacity alone
wide : (c : goal.Start) → members c.args.s < 2 ^ capacity
wide c = members-lt c.args.s (omega arith) (omega arith)

pub loop-left-init : goal.loop-left-init
loop-left-init c = count-start _ _ _

pub overflow_add-all : goal.overflow_add-all
overflow_add-all c =
    omega (arith, (count-few (wide (goal.at.overflow_add-all c).Start) c.loop-left.invariant).0)

pub overflow_add-large : goal.overflow_add-large
overflow_add-large c =
    omega (arith, (count-few (wide (goal.at.overflow_add-large c).Start) c.loop-left.invariant).1, c.from-large.ensures, one-most (leb c.args.least c.size.result))

pub loop-left-smaller : goal.loop-left-smaller
loop-left-smaller c =
    rw (c.difference-left.ensures, c.circle_of-circle.ensures) (count_less (wide (goal.at.loop-left-smaller c).Start) c.loop-left.invariant (some_left c.is_empty.ensures (ap not c.loop-left-test.true)))

pub loop-left-preserved : goal.loop-left-preserved
loop-left-preserved c =
    let enough : c.from-large.result ≡ length (at_least c.args.least (members c.circle_of-circle.result ∷ [])) = rw c.size.ensures at c.from-large.ensures ∙ circle-counts _ _ in
    rw (c.difference-left.ensures, enough, c.circle_of-circle.ensures) (count-more (wide (goal.at.loop-left-preserved c).Start) c.loop-left.invariant (some_left c.is_empty.ensures (ap not c.loop-left-test.true)))

pub returns : goal.returns
returns c =
    let e = count-end (wide (goal.at.returns c).Start) c.loop-left.invariant (none-unseen c.is_empty.ensures (ap not c.loop-left-test.false)) in
    record { all = e.0; large = e.1 }
