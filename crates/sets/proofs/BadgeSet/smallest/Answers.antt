-- BadgeSet::smallest meets its contract: the smallest badge is that of the low word, or else of the high word; in a word it is the number of
-- trailing zeros.
use mathlib.Core.Path.{sym, ap, ◌∙◌}
use mathlib.Core.List.{[], ◌∷◌}
use Prim.Native.Nat.{ℕ, ◌+◌}
use native.Mathlib.Omega.{arith}
use lib.Count.{trailing_le}
use Rattle.sets.specs.Words.{word_bits}
use Rattle.sets.proofs.Smallest.{smallest-trailing}
use Rattle.sets.proofs.FirstWord.{words-smallest, first-later, first-here, first-last}
use Rattle.sets.proofs.Pairs.{two-words}
use Rattle.sets.proofs.BadgeSet.smallest.Goals as goal

pub overflow_cast-result : goal.overflow_cast-result
overflow_cast-result c = omega (arith, trailing_le 64 c.args.self.high)

pub overflow_add-result : goal.overflow_add-result
overflow_add-result c = omega (arith, trailing_le 64 c.args.self.high)

pub returns-then-self-eq0 : goal.returns-then-self-eq0
returns-then-self-eq0 c =
    let s = c.args.self in
    sym (words-smallest (s.low ∷ s.high ∷ []) (two-words (omega arith) (omega arith)) ∙ first-later s.low (s.high ∷ []) c.if-self-eq0.true
    ∙ ap (λ (x : ℕ). word_bits + x) (first-last s.high ∙ smallest-trailing word_bits s.high))

pub overflow_cast-result-2 : goal.overflow_cast-result-2
overflow_cast-result-2 c = omega (arith, trailing_le 64 c.args.self.low)

pub returns : goal.returns
returns c =
    let s = c.args.self in
    sym (words-smallest (s.low ∷ s.high ∷ []) (two-words (omega arith) (omega arith)) ∙ first-here s.low (s.high ∷ []) c.if-self-eq0.false ∙ smallest-trailing word_bits s.low)
