-- `encode_plan` meets its contract: before the turn of part i the parts before it are appended, and it starts after the end of the last.
use Rattle.sets.specs.Members.{members}
use Rattle.groups.proofs.PlanBytes.{PlanSoFar}
use Rattle.groups.proofs.planning.encode_plan.Given as goal

abbrev pub invariant-loop-i : goal.invariant-loop-i
invariant-loop-i l =
    PlanSoFar l.day.badges l.day.ticks l.day.words.now (members l.day.review) (members l.query) l.parts l.ends l.scores l.i l.first l.count l.initial.buffer l.buffer
