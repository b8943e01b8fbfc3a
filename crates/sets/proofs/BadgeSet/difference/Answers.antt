-- BadgeSet::difference meets its contract: it works word by word, and no subtraction goes below 0.
use mathlib.Core.Path.{refl, sym}
use mathlib.Core.List.{[], ◌∷◌, zip_with}
use native.Mathlib.Omega.{arith}
use lib.Bits.{and_le_l}
use Rattle.sets.specs.Sets.{difference}
use Rattle.sets.proofs.WordByWord.{words-difference}
use Rattle.sets.proofs.Pairs.{two-words}
use Rattle.sets.proofs.BadgeSet.difference.Goals as goal

pub overflow_sub-result : goal.overflow_sub-result
overflow_sub-result c = and_le_l _ _

pub overflow_sub-result-2 : goal.overflow_sub-result-2
overflow_sub-result-2 c = and_le_l _ _

pub returns : goal.returns
unfolding zip_with difference
returns c =
    let a = c.args in
    sym (words-difference (a.self.low ∷ a.self.high ∷ []) (a.other.low ∷ a.other.high ∷ []) refl (two-words (omega arith) (omega arith)) (two-words (omega arith) (omega arith)))
