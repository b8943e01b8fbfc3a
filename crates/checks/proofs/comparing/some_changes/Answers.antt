-- `some_changes` meets its contract: before the turn of a row the set is the union over the rows before it.
use native.Mathlib.Omega.{arith}
use Rattle.sets.specs.Words.{from_words}
use Rattle.checks.proofs.Changes.{union-none, union-one, union-join, union-to}
use Rattle.checks.proofs.comparing.some_changes.Goals as goal

pub loop-w-init : goal.loop-w-init
unfolding from_words
loop-w-init g c = union-none _ c.args.u

pub loop-w-preserved : goal.loop-w-preserved
loop-w-preserved g c =
    union-join c.loop-w.invariant (union-one _ _ c.change_at.ensures) c.union-all.ensures (omega arith) (omega arith) (omega arith) (omega arith)

pub returns : goal.returns
returns g c = union-to _ (omega arith) c.loop-w.invariant
