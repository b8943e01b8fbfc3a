-- `changes` meets its contract: after the eights, the set before the turn of row u is the union over the rows before it.
use native.Mathlib.Omega.{arith}
use borrow.Author.Rules.{rules}
use Rattle.checks.proofs.Changes.{union-one, union-join, union-to}
use Rattle.checks.proofs.comparing.changes.Goals as goal

pub loop-u-init : goal.loop-u-init
loop-u-init c = (search rules, c.changes_by_eight-all.ensures)

pub loop-u-preserved : goal.loop-u-preserved
loop-u-preserved c =
    (search rules, union-join c.loop-u.invariant.1 (union-one _ _ c.change_at.ensures) c.union-all.ensures (omega arith) (omega arith) (omega arith) (omega arith))

pub returns : goal.returns
returns c = union-to _ (omega arith) c.loop-u.invariant.1
