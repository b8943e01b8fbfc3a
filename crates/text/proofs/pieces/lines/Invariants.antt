-- lines meets its contract: before each turn of the loop the lines so far stand in the buffer, and what fits behind them is still to come.
use Prim.Native.Nat.{◌≤◌, max}
use Rattle.groups.specs.Refusals.{written_outcome}
use Rattle.text.specs.Calls.{shown_lines}
use Rattle.text.proofs.Filling.{Fills}
use Rattle.text.proofs.pieces.lines.Given as goal

abbrev pub invariant-loop-next : goal.invariant-loop-next
invariant-loop-next l = record {
  within : l.next ≤ max l.from l.count;
  fills : Fills (shown_lines (written_outcome l.answer) l.report) l.from l.next l.at l.initial.buffer l.buffer;
}
