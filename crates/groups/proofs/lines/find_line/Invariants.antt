-- `find_line` meets its contract: at the turn of a last tick the spans that end before it have been found.
use Rattle.sets.specs.Members.{members}
use Rattle.groups.proofs.LineLoops.{Finding}
use Rattle.groups.proofs.lines.find_line.Given as goal

abbrev pub invariant-loop-last : goal.invariant-loop-last
invariant-loop-last l =
    Finding l.day.badges l.day.ticks l.day.words.now (members l.day.review) (members l.query) l.first l.enough l.initial.line l.last l.rows l.reached l.upper l.line
