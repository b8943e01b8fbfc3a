-- BadgeSet::symmetric_difference meets its contract: it works word by word.
use mathlib.Core.Path.{sym}
use mathlib.Core.List.{[], ◌∷◌, zip_with}
use mathlib.Core.Path.{refl}
use native.Mathlib.Omega.{arith}
use Rattle.sets.specs.Sets.{symmetric_difference}
use Rattle.sets.proofs.WordByWord.{words-symmetric-difference}
use Rattle.sets.proofs.Pairs.{two-words}
use Rattle.sets.proofs.BadgeSet.symmetric_difference.Goals as goal

pub returns : goal.returns
unfolding zip_with symmetric_difference
returns c =
    let a = c.args in
    sym (words-symmetric-difference (a.self.low ∷ a.self.high ∷ []) (a.other.low ∷ a.other.high ∷ []) refl (two-words (omega arith) (omega arith)) (two-words (omega arith) (omega arith)))
