-- `lanes::SideRows::discount` meets its contract: before a turn the rows of the badges that are no longer unseen are added.
use mathlib.Core.Path.{refl}
use native.Mathlib.Omega.{arith}
use Rattle.planes.specs.Lanes.{planes_of}
use Rattle.innermost.specs.Counting.{row_word, AddsSome}
use Rattle.innermost.proofs.CountedLanes.{adds-two, adding-start, adding-more, adding-end}
use Rattle.innermost.proofs.lanes.SideRows.discount.Goals as goal
use Rattle.innermost.proofs.lanes.SideRows.discount.Goals.{After-add_two-out}

pub loop-unseen-init : goal.loop-unseen-init
loop-unseen-init c = adding-start _ _ _

-- two rows more are added
step : (c : goal.After-add_two-out) →
    let a = c.args in
    AddsSome (row_word a.self.rows.now a.self.from a.self.side) c.loop-unseen.unseen c.take-b.result.rest (planes_of c.loop-unseen.out) (planes_of c.add_two-out.result)
step c = adds-two c.take-a.ensures c.take-b.ensures refl c.add_two-out.ensures

pub loop-unseen-smaller : goal.loop-unseen-smaller
loop-unseen-smaller c =
    let f = c.loop-unseen-test.true in
    (step (goal.at.loop-unseen-smaller c).After-add_two-out).falls (omega arith)

pub loop-unseen-preserved : goal.loop-unseen-preserved
loop-unseen-preserved c = adding-more c.loop-unseen.invariant (step (goal.at.loop-unseen-preserved c).After-add_two-out)

pub returns : goal.returns
returns c = adding-end c.loop-unseen.invariant c.loop-unseen-test.false refl
