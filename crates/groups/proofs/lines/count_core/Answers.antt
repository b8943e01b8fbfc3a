-- `count_core` meets its contract: a set's circles are few enough for a byte each.
use Prim.Native.Nat.{◌≤◌}
use native.Mathlib.Omega.{arith}
use lib.ListN.{length}
use Rattle.sets.specs.Members.{capacity, members}
use Rattle.sets.proofs.Pairs.{members-lt}
use Rattle.sets.proofs.Size.{size-le}
use Rattle.cores.specs.Rows.{graph}
use Rattle.circles.specs.Circles.{circles}
use Rattle.circles.proofs.CircleLists.{circles-few}
use Rattle.circles.proofs.Counting.{counted-le}
use Rattle.groups.proofs.lines.count_core.Goals as goal
use Rattle.groups.proofs.lines.count_core.Goals.{After-count_circles-counted}

pub returns-then-enough-eq0 : goal.returns-then-enough-eq0
returns-then-enough-eq0 c = record { counted = λ p. absurd (omega (arith, c.if-enough-eq0.true)) }

-- the circles are few
few : (c : goal.After-count_circles-counted) → (c.count_circles-counted.result.all ≤ capacity) × (c.count_circles-counted.result.large ≤ capacity)
few c =
    let a = c.args in
    let s = members a.core in
    let known = members-lt a.core (omega arith) (omega arith) in
    let g = graph a.rows.now in
    let e = c.count_circles-counted.ensures in
    let most : length (circles g s) ≤ capacity = omega (arith, circles-few g s known, size-le capacity s known) in
    (omega (arith, e.all), omega (arith, e.large, counted-le a.enough (circles g s)))

pub overflow_cast-result : goal.overflow_cast-result
overflow_cast-result c = omega (arith, (few (goal.at.overflow_cast-result c).After-count_circles-counted).0)

pub overflow_cast-result-2 : goal.overflow_cast-result-2
overflow_cast-result-2 c = omega (arith, (few (goal.at.overflow_cast-result-2 c).After-count_circles-counted).1)

pub returns : goal.returns
returns c =
    let e = c.count_circles-counted.ensures in
    record { counted = λ p. record { in_all = e.all; with_enough = e.large } }
