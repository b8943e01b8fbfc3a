-- `lanes::count_side` meets its contract: before a turn the rows of the badges of the words before i are added, and the complement of the sums counts.
use Rattle.sets.specs.Members.{members}
use Rattle.planes.specs.Lanes.{planes_of}
use Rattle.cores.specs.Rows.{graph}
use Rattle.innermost.proofs.CountedDegrees.{AddingWords}
use Rattle.innermost.proofs.lanes.count_side.Given as goal

abbrev pub invariant-loop-i : goal.invariant-loop-i
invariant-loop-i l = AddingWords (graph l.rows) (members l.s) l.side l.i (planes_of l.initial.sums) (planes_of l.sums)
