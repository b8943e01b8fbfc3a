-- `Badges::next` meets its contract: the smallest badge is in the first word that has one, and w & (w - 1) has that word's others.
use mathlib.Core.Path.{refl}
use native.Mathlib.Omega.{arith}
use borrow.Author.Rules.{rules}
use Rattle.sets.specs.Words.{from_words}
use Rattle.sets.proofs.Pairs.{members-lt}
use Rattle.sets.proofs.Turns.{turn-low, turn-high, turn-fewer}
use Rattle.sets.proofs.walking.BadgesIterator.next.Goals as goal

pub returns-then-low-ne0-clause-steps : goal.returns-then-low-ne0-clause-steps
returns-then-low-ne0-clause-steps c = let s = c.args.self.now.left in turn-low s.low s.high (omega arith) (omega arith) c.if-low-ne0.true

pub returns-then-low-ne0-clause-goes : goal.returns-then-low-ne0-clause-goes
returns-then-low-ne0-clause-goes c =
    let s = c.args.self.now.left in
    let fewer = turn-fewer (members-lt s (omega arith) (omega arith)) (turn-low s.low s.high (omega arith) (omega arith) c.if-low-ne0.true) in
    record { on = λ _. (search rules, search rules, fewer); keeps = search rules; rests = search rules }

pub returns-then-high-ne0-clause-steps : goal.returns-then-high-ne0-clause-steps
returns-then-high-ne0-clause-steps c = let s = c.args.self.now.left in turn-high s.low s.high (omega arith) (omega arith) c.if-low-ne0.false c.if-high-ne0.true

pub returns-then-high-ne0-clause-goes : goal.returns-then-high-ne0-clause-goes
returns-then-high-ne0-clause-goes c =
    let s = c.args.self.now.left in
    let fewer = turn-fewer (members-lt s (omega arith) (omega arith)) (turn-high s.low s.high (omega arith) (omega arith) c.if-low-ne0.false c.if-high-ne0.true) in
    record { on = λ _. (search rules, search rules, fewer); keeps = search rules; rests = search rules }

pub returns-clause-steps : goal.returns-clause-steps
unfolding from_words
returns-clause-steps c = (omega arith, refl)
