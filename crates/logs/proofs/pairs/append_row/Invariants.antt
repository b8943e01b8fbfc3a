-- append_row meets its contract: before badge v of the loop the runs of u and the larger badges before v are appended. The ticks that
-- the columns give for u and v are those of the day in which they meet.
use Prim.Native.Nat.{◌<◌, ◌≤◌}
use Rattle.sets.specs.Tables.{concat_below}
use Rattle.days.specs.Days.{adjacent}
use Rattle.logs.specs.Writing.{Appended}
use Rattle.logs.proofs.Appending.{larger_runs}
use Rattle.logs.proofs.pairs.append_row.Given as goal

abbrev pub invariant-loop-v : goal.invariant-loop-v
invariant-loop-v l =
    (l.u < l.v) × (l.v ≤ l.day.badges) × Appended (concat_below l.v (larger_runs l.day.ticks (adjacent l.day.badges l.day.words.now) l.u)) l.count l.so_far l.initial.log l.log
