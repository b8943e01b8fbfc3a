-- append_pair meets its contract: the runs that end before the tick at hand are appended, and a run starts with this tick, or there is none
-- from it on. The loop ends as the tick grows.
use Prim.Native.Nat.{◌-◌, ◌≤◌}
use Rattle.sets.specs.Tables.{concat_below}
use Rattle.logs.specs.Tidy.{run_at}
use Rattle.logs.specs.TickSets.{tick_capacity, has_tick}
use Rattle.logs.specs.Writing.{Appended}
use Rattle.logs.proofs.PairRuns.{RunFrom}
use Rattle.logs.proofs.pairs.append_pair.Given as goal

abbrev pub invariant-loop-first : goal.invariant-loop-first
invariant-loop-first l =
    (l.first ≤ tick_capacity) × RunFrom l.ticks (has_tick l.met) l.first
    × Appended (concat_below l.first (run_at l.ticks (has_tick l.met) l.u l.v)) l.count l.so_far l.initial.log l.log

abbrev pub decreases-loop-first : goal.decreases-loop-first
decreases-loop-first l = tick_capacity - l.first
