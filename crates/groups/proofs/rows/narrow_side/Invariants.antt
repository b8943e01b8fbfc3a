-- `narrow_side` meets its contract: eight rows in a turn, and then the others, one in a turn.
use Prim.Native.Nat.{◌≤◌}
use Rattle.groups.specs.Steps.{NarrowsSide}
use Rattle.groups.proofs.rows.narrow_side.Given as goal

abbrev pub invariant-loop-u : goal.invariant-loop-u
invariant-loop-u l = (l.initial.u ≤ l.u) × (l.u ≤ l.n) × NarrowsSide l.tick l.side l.initial.u l.u l.initial.rows l.rows
