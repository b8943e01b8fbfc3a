-- `lanes::SideRows::add_by_eight` meets its contract: before a turn the rows of the badges that are no longer unseen are added.
use mathlib.Core.Path.{refl}
use native.Mathlib.Omega.{arith}
use Rattle.innermost.proofs.CountedLanes.{adding-start, adding-more, adding-end}
use Rattle.innermost.proofs.lanes.SideRows.add_by_eight.Goals as goal

pub loop-sums-init : goal.loop-sums-init
loop-sums-init c = adding-start _ _ _

pub loop-sums-smaller : goal.loop-sums-smaller
loop-sums-smaller c =
    let f = c.loop-sums-test.true in
    c.add_eight-sums.ensures.falls (omega arith)

pub loop-sums-preserved : goal.loop-sums-preserved
loop-sums-preserved c = adding-more c.loop-sums.invariant c.add_eight-sums.ensures

pub returns : goal.returns
returns c = adding-end c.loop-sums.invariant c.loop-sums-test.false refl
