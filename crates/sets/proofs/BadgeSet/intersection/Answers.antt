-- BadgeSet::intersection meets its contract: it works word by word.
use mathlib.Core.Path.{sym}
use mathlib.Core.List.{[], ◌∷◌, zip_with}
use mathlib.Core.Path.{refl}
use native.Mathlib.Omega.{arith}
use Rattle.sets.specs.Sets.{intersection}
use Rattle.sets.proofs.WordByWord.{words-intersection}
use Rattle.sets.proofs.Pairs.{two-words}
use Rattle.sets.proofs.BadgeSet.intersection.Goals as goal

pub returns : goal.returns
unfolding zip_with intersection
returns c =
    let a = c.args in
    sym (words-intersection (a.self.low ∷ a.self.high ∷ []) (a.other.low ∷ a.other.high ∷ []) refl (two-words (omega arith) (omega arith)) (two-words (omega arith) (omega arith)))
