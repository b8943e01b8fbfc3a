-- `lanes::SideRows::add_eight` meets its contract: eight rows are taken, and added.
use mathlib.Core.Path.{refl}
use Rattle.innermost.proofs.CountedLanes.{adds-eight}
use Rattle.innermost.proofs.lanes.SideRows.add_eight.Goals as goal

pub returns : goal.returns
returns c =
    adds-eight c.take-a.ensures c.take-b.ensures c.take-c.ensures c.take-d.ensures
    c.take-e.ensures c.take-f.ensures c.take-g.ensures c.take-h.ensures refl c.add_eight.ensures
