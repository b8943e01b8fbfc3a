-- BadgeSet::union meets its contract: it works word by word.
use mathlib.Core.Path.{sym}
use mathlib.Core.List.{[], ◌∷◌, zip_with}
use mathlib.Core.Path.{refl}
use native.Mathlib.Omega.{arith}
use Rattle.sets.specs.Sets.{union}
use Rattle.sets.proofs.WordByWord.{words-union}
use Rattle.sets.proofs.Pairs.{two-words}
use Rattle.sets.proofs.BadgeSet.union.Goals as goal

pub returns : goal.returns
unfolding zip_with union
returns c =
    let a = c.args in
    sym (words-union (a.self.low ∷ a.self.high ∷ []) (a.other.low ∷ a.other.high ∷ []) refl (two-words (omega arith) (omega arith)) (two-words (omega arith) (omega arith)))
