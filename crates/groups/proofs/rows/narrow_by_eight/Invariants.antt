-- `narrow_by_eight` meets its contract: after i turns the first 8 * i rows are narrowed.
use Prim.Native.Nat.{◌*◌, ◌≤◌}
use Rattle.groups.specs.Steps.{NarrowsSide}
use Rattle.groups.proofs.rows.narrow_by_eight.Given as goal

abbrev pub invariant-loop-i : goal.invariant-loop-i
invariant-loop-i l = (l.i ≤ l.eights) × NarrowsSide l.tick l.side 0 (8 * l.i) l.initial.rows l.rows
