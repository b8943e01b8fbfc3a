-- `compared` meets its contract: the first log is compared with nothing, any other with the first.
use Rattle.std.proofs.Common.{rules, sym}
use Rattle.days.specs.SeriesSteps.{compared}
use Rattle.days.proofs.sizes.compared.Goals as goal

pub returns-in-None : goal.returns-in-None
unfolding compared
returns-in-None c = search rules

pub returns-then-eq : goal.returns-then-eq
unfolding compared
returns-then-eq c = rw (c.in-Same.is, compared, sym c.if-eq.ensures)

pub returns-else-eq : goal.returns-else-eq
unfolding compared
returns-else-eq c = rw (c.in-Same.is, compared, sym c.if-eq.ensures)

pub returns-in-Different : goal.returns-in-Different
unfolding compared
returns-in-Different c = search rules
