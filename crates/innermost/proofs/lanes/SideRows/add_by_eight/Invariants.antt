-- `lanes::SideRows::add_by_eight` meets its contract: before a turn the rows of the badges that are no longer unseen are added.
use Rattle.sets.specs.Sets.{size}
use Rattle.planes.specs.Lanes.{planes_of}
use Rattle.innermost.specs.Counting.{row_word}
use Rattle.innermost.proofs.CountedLanes.{Adding}
use Rattle.innermost.proofs.lanes.SideRows.add_by_eight.Given as goal

abbrev pub invariant-loop-sums : goal.invariant-loop-sums
invariant-loop-sums l = Adding (row_word l.self.rows.now l.self.from l.self.side) l.initial.sums.unseen l.sums.unseen (planes_of l.initial.sums.planes) (planes_of l.sums.planes)

abbrev pub decreases-loop-sums : goal.decreases-loop-sums
decreases-loop-sums l = size l.sums.unseen
