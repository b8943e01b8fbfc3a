-- `row_maxima` meets its contract: before first tick t of the loop the greatest scores of the rows below t are held.
use Prim.Native.Nat.{◌≤◌}
use Rattle.cuts.specs.Steps.{RowMaxima}
use Rattle.cuts.proofs.row_maxima.Given as goal

abbrev pub invariant-loop-t : goal.invariant-loop-t
invariant-loop-t l = (l.t ≤ l.ticks) × RowMaxima l.scores l.ticks l.t l.maxima
