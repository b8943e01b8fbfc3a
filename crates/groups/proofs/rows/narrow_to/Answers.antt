-- `narrow_to` meets its contract: the rows are those of the span from its first tick to tick t.
use Rattle.groups.proofs.Narrowing.{to_step, to_next, to_end}
use Rattle.groups.proofs.rows.narrow_to.Goals as goal

pub loop-t-init : goal.loop-t-init
loop-t-init c = c.requires.1

pub narrow-requires : goal.narrow-requires
narrow-requires c =
    let t = c.tick.ensures in
    rw t.words (to_step c.args.day.now.lent c.loop-t.invariant c.loop-t-test.true c.requires.0 (rw t.words at t.fit))

pub loop-t-preserved : goal.loop-t-preserved
loop-t-preserved c =
    let t = c.tick.ensures in
    to_next c.args.day.now.lent c.loop-t.invariant c.loop-t-test.true c.requires.0 (rw t.words at c.narrow.ensures) (rw t.words at t.fit)

pub returns : goal.returns
returns c = to_end c.loop-t.invariant c.loop-t-test.false
