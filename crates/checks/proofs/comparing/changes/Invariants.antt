-- `changes` meets its contract: after the eights, the set before the turn of row u is the union over the rows before it.
use Prim.Native.Nat.{◌≤◌}
use Rattle.sets.specs.Members.{members}
use Rattle.checks.specs.Changes.{change_at, UnionOver}
use Rattle.checks.proofs.comparing.changes.Given as goal

abbrev pub invariant-loop-u : goal.invariant-loop-u
invariant-loop-u l = (l.u ≤ l.n) × UnionOver (change_at l.tick l.before) 0 l.u (members l.all)
