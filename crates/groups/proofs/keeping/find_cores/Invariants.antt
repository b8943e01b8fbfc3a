-- `find_cores` meets its contract: before the turn of a first tick the cores that meet the thresholds on the spans that start before it are kept.
use Rattle.sets.specs.Members.{members}
use Rattle.groups.proofs.CoresFound.{CoresSoFar}
use Rattle.groups.proofs.keeping.find_cores.Given as goal

abbrev pub invariant-loop-first : goal.invariant-loop-first
invariant-loop-first l =
    CoresSoFar l.day.badges l.day.ticks l.day.words.now (members l.day.review) l.least l.first l.initial.cores l.cores l.line
