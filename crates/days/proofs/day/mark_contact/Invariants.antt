-- mark_contact meets its contract: before tick t of the loop the contact's ticks before t are marked.
use Rattle.days.proofs.Marking.{Marking}
use Rattle.days.proofs.day.mark_contact.Given as goal

abbrev pub invariant-loop-t : goal.invariant-loop-t
invariant-loop-t l = Marking l.n l.a l.b l.first l.last l.initial.words l.t l.words
