-- `Day::neighbours` meets its contract: the set is the one at the place of the tick and the badge.
use Rattle.days.specs.Days.{neighbours}
use Rattle.logs.proofs.day.Day.neighbours.Goals as goal

pub returns : goal.returns
unfolding neighbours
returns c = c.set_at.ensures
