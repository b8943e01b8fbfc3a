-- BadgeSet::with meets its contract: a badge that a set can hold changes one word, and any other changes nothing.
use mathlib.Core.Path.{sym}
use native.Mathlib.Omega.{arith}
use Rattle.sets.specs.Members.{members}
use Rattle.sets.proofs.Sets.{insert-out}
use Rattle.sets.proofs.Pairs.{with-low, with-high}
use Rattle.sets.proofs.BadgeSet.with.Goals as goal

pub returns-then-u-lt-WORD_BITS : goal.returns-then-u-lt-WORD_BITS
returns-then-u-lt-WORD_BITS c = let a = c.args in with-low a.self.low a.self.high a.u (omega arith) (omega arith) (omega arith)

pub returns-then-u-lt-CAPACITY : goal.returns-then-u-lt-CAPACITY
returns-then-u-lt-CAPACITY c = let a = c.args in with-high a.self.low a.self.high a.u (omega arith) (omega arith) (omega arith) (omega arith)

pub returns : goal.returns
returns c = let a = c.args in sym (insert-out (members a.self) a.u (omega arith))
