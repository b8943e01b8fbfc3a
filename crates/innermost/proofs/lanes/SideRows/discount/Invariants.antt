-- `lanes::SideRows::discount` meets its contract: before a turn the rows of the badges that are no longer unseen are added.
use Rattle.sets.specs.Sets.{size}
use Rattle.planes.specs.Lanes.{planes_of}
use Rattle.innermost.specs.Counting.{row_word}
use Rattle.innermost.proofs.CountedLanes.{Adding}
use Rattle.innermost.proofs.lanes.SideRows.discount.Given as goal

abbrev pub invariant-loop-unseen : goal.invariant-loop-unseen
invariant-loop-unseen l = Adding (row_word l.self.rows.now l.self.from l.self.side) l.initial.unseen l.unseen (planes_of l.initial.out) (planes_of l.out)

abbrev pub decreases-loop-unseen : goal.decreases-loop-unseen
decreases-loop-unseen l = size l.unseen
