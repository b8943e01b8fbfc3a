-- BadgeSet::is_empty meets its contract: a set is empty when no bit of either word is 1.
use Rattle.sets.proofs.Pairs.{empty-two}
use Rattle.sets.proofs.BadgeSet.is_empty.Goals as goal

pub returns : goal.returns
returns c = let s = c.args.self in empty-two s.low s.high
