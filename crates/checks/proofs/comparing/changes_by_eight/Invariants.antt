-- `changes_by_eight` meets its contract: after i turns, the first before the loop, the set is the union over 8 * i rows.
use Prim.Native.Nat.{◌*◌, ◌≤◌}
use Rattle.sets.specs.Members.{members}
use Rattle.checks.specs.Changes.{change_at, UnionOver}
use Rattle.checks.proofs.comparing.changes_by_eight.Given as goal

abbrev pub invariant-loop-i : goal.invariant-loop-i
invariant-loop-i l = (l.i ≤ l.eights) × UnionOver (change_at l.tick l.before) 0 (8 * l.i) (members l.all)
