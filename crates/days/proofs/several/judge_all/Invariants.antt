-- `judge_all` meets its contract: at each log those before it are accepted, and what is known of their sizes is theirs.
use Rattle.days.proofs.SeriesLoops.{Judging}
use Rattle.days.proofs.several.judge_all.Given as goal

abbrev pub invariant-loop-length : goal.invariant-loop-length
invariant-loop-length l = Judging l.logs l.lengths l.sizes l.at l.length-index
