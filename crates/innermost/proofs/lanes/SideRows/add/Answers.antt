-- `lanes::SideRows::add` meets its contract: the rows of all badges are those of the word that has all of them.
use Rattle.innermost.proofs.CountedLanes.{every-badge}
use Rattle.innermost.proofs.lanes.SideRows.add.Goals as goal

pub returns-then-word-eq-EVERY : goal.returns-then-word-eq-EVERY
returns-then-word-eq-EVERY c = rw (every-badge c.if-word-eq-EVERY.true) at c.add_all.ensures
