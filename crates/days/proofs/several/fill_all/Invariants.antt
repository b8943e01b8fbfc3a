-- `fill_all` meets its contract: before each log the days of the logs before it are filled.
use Rattle.days.proofs.SeriesLoops.{Filling}
use Rattle.days.proofs.several.fill_all.Given as goal

abbrev pub invariant-loop-length : goal.invariant-loop-length
invariant-loop-length l = Filling l.logs l.lengths l.size.badges l.size.ticks l.initial.words l.words l.at l.from l.length-index
