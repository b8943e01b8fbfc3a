-- `lanes::SideRows::add_all` meets its contract: before turn i the rows of the first 8 * i badges of the word are added.
use Prim.Native.Nat.{◌*◌}
use Rattle.planes.specs.Lanes.{planes_of}
use Rattle.innermost.specs.Counting.{row_word}
use Rattle.innermost.proofs.CountedLanes.{Prefix}
use Rattle.innermost.proofs.lanes.SideRows.add_all.Given as goal

abbrev pub invariant-loop-i : goal.invariant-loop-i
invariant-loop-i l = Prefix (row_word l.self.rows.now l.self.from l.self.side) (8 * l.i) (planes_of l.initial.out) (planes_of l.out)
