-- `put_line` meets its contract: at the turn of a last tick the scores of the runs that end before it are in the table.
use Prim.Native.Nat.{◌≤◌}
use Rattle.groups.specs.Scoring.{LinePut}
use Rattle.groups.proofs.scoring.put_line.Given as goal

abbrev pub invariant-loop-last : goal.invariant-loop-last
invariant-loop-last l = (l.first ≤ l.last) × (l.last ≤ l.ticks) × LinePut l.last l.first l.line l.initial.scores l.scores
