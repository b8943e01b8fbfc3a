-- `walk_uppers` meets its contract: before the turn of row u the upper words of the rows before it are passed.
use Prim.Native.Nat.{◌≤◌}
use Rattle.checks.specs.Scan.{Passed}
use Rattle.checks.proofs.checking.walk_uppers.Given as goal

abbrev pub invariant-loop-u : goal.invariant-loop-u
invariant-loop-u l = (l.u ≤ l.n) × Passed l.n l.u l.tick l.known
