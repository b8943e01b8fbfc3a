-- `best_ends` meets its contract: the rows below c are filled, and in the end those that the walk reads.
use Prim.Native.Nat.{◌≤◌}
use Rattle.cuts.specs.Steps.{Filled}
use Rattle.cuts.proofs.best_ends.Given as goal

abbrev pub invariant-loop-c : goal.invariant-loop-c
invariant-loop-c l = (1 ≤ l.parts) × (l.parts ≤ l.ticks) × (l.ticks ≤ 96) × Filled l.scores l.ticks l.parts l.c l.sums
