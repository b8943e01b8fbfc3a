-- encode_day meets its contract: before badge u of the loop the header and the runs of the badges before u are encoded.
use Prim.Native.Nat.{◌≤◌}
use Rattle.sets.specs.Tables.{concat_below}
use Rattle.days.specs.Days.{adjacent}
use Rattle.logs.specs.Tidy.{row_runs}
use Rattle.logs.specs.Writing.{Appended}
use Rattle.logs.proofs.writing.encode_day.Given as goal

abbrev pub invariant-loop-u : goal.invariant-loop-u
invariant-loop-u l =
    (l.u ≤ l.day.badges) × Appended (concat_below l.u (row_runs l.day.badges l.day.ticks (adjacent l.day.badges l.day.words.now))) 0 l.count l.initial.log l.log
