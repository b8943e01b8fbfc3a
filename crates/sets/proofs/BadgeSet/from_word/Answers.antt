-- BadgeSet::from_word meets its contract: the high word holds nobody.
use native.Mathlib.Omega.{arith}
use Rattle.sets.specs.Words.{from_words}
use Rattle.sets.proofs.BadgeSet.from_word.Goals as goal

pub returns : goal.returns
unfolding from_words
returns c = omega arith
