-- `walk_ends` meets its contract: after i turns the first i ends are found, and those of the definition from tick t on are the others.
use Prim.Native.Nat.{◌-◌, ◌≤◌}
use Rattle.cuts.proofs.Steps.{Walked}
use Rattle.cuts.proofs.walk_ends.Given as goal

abbrev pub invariant-loop-i : goal.invariant-loop-i
invariant-loop-i l = (l.i ≤ l.parts - 1) × Walked l.scores l.ticks l.parts l.i l.t l.ends
