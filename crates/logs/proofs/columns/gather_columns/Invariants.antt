-- gather_columns meets its contract: before tick t of the loop the columns hold the ticks before t.
use mathlib.Core.Path.{◌≡◌}
use Prim.Native.Nat.{◌+◌, ◌≤◌}
use Rattle.sets.specs.Sets.{full}
use Rattle.sets.specs.Members.{members}
use Rattle.logs.specs.TickSets.{Columns}
use Rattle.logs.proofs.columns.gather_columns.Given as goal

abbrev pub invariant-loop-t : goal.invariant-loop-t
invariant-loop-t l = (l.t ≤ l.m) × (members l.smaller ≡ full (l.u + 1)) × Columns l.day.badges l.day.words.now l.u l.from l.t l.columns
