-- BadgeSet::size meets its contract: the size of a set is the sum of its words' numbers of ones.
use mathlib.Core.List.{[], ◌∷◌}
use native.Mathlib.Omega.{arith}
use lib.Count.{ones-le}
use Rattle.sets.proofs.Size.{size-ones}
use Rattle.sets.proofs.WordByWord.{sizes, words_size}
use Rattle.sets.proofs.Pairs.{two-words}
use Rattle.sets.proofs.BadgeSet.size.Goals as goal

pub overflow_cast-result : goal.overflow_cast-result
overflow_cast-result c = omega (arith, ones-le 64 c.args.self.low (omega arith))

pub overflow_cast-result-2 : goal.overflow_cast-result-2
overflow_cast-result-2 c = omega (arith, ones-le 64 c.args.self.high (omega arith))

pub overflow_add-result : goal.overflow_add-result
overflow_add-result c = let s = c.args.self in omega (arith, ones-le 64 s.low (omega arith), ones-le 64 s.high (omega arith))

pub returns : goal.returns
unfolding sizes
returns c =
    let s = c.args.self in
    omega (arith, size-ones s.low, size-ones s.high, words_size (s.low ∷ s.high ∷ []) (two-words (omega arith) (omega arith)))
