-- `first_rows` meets its contract: the rows of a tick are those of the span of this tick alone.
use Rattle.groups.proofs.Narrowing.{first-tick}
use Rattle.groups.proofs.rows.first_rows.Goals as goal

pub returns : goal.returns
returns c =
    let p = c.requires in
    first-tick c.args.day.now.lent p.0 p.1 (rw c.tick.ensures.words at c.copy_tick.ensures)
