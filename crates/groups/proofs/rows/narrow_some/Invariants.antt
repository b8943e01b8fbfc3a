-- `narrow_some` meets its contract: before the turn of i the rows before it are narrowed.
use Prim.Native.Nat.{◌+◌, ◌≤◌}
use Rattle.groups.specs.Steps.{NarrowsSide}
use Rattle.groups.proofs.rows.narrow_some.Given as goal

abbrev pub invariant-loop-i : goal.invariant-loop-i
invariant-loop-i g l = (l.u ≤ l.i) × (l.i ≤ l.u + g.row.N) × NarrowsSide l.tick l.side l.u l.i l.initial.rows l.rows
