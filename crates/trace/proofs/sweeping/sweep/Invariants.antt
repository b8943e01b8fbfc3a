-- `sweep` meets its contract: before the turn of tick t the ticks from the start tick to the one before it are swept.
use Rattle.sets.specs.Members.{members}
use Rattle.trace.proofs.SweepSteps.{Sweeping}
use Rattle.trace.proofs.sweeping.sweep.Given as goal

abbrev pub invariant-loop-t : goal.invariant-loop-t
invariant-loop-t l = Sweeping l.n l.ticks l.words l.index l.start l.t (members l.passing) l.trace
