-- `changes_by_eight` meets its contract: after i turns, the first before the loop, the set is the union over 8 * i rows.
use native.Mathlib.Omega.{arith}
use borrow.Author.Rules.{rules}
use Rattle.sets.specs.Words.{from_words}
use Rattle.checks.proofs.Changes.{union-none, union-join, union-to}
use Rattle.checks.proofs.comparing.changes_by_eight.Goals as goal

pub returns-then-eights-eq0 : goal.returns-then-eights-eq0
unfolding from_words
returns-then-eights-eq0 c = union-to _ (omega (arith, c.if-eights-eq0.true)) (union-none _ 0)

pub loop-i-init : goal.loop-i-init
loop-i-init c = (search rules, c.some_changes-all.ensures)

pub loop-i-preserved : goal.loop-i-preserved
loop-i-preserved c = (search rules, union-join c.loop-i.invariant.1 c.some_changes.ensures c.union-all.ensures (omega arith) (omega arith) (omega arith) (omega arith))

pub returns : goal.returns
returns c = union-to _ (omega arith) c.loop-i.invariant.1
