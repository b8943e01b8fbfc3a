-- `two_rows` meets its contract: who is in one of two rows is in their union.
use native.Mathlib.Omega.{arith}
use Rattle.checks.proofs.Changes.{union-one, union-join}
use Rattle.checks.proofs.rows.two_rows.Goals as goal

pub returns : goal.returns
returns c = union-join (union-one _ _ c.set_at.ensures) (union-one _ _ c.set_at-2.ensures) c.union.ensures (omega arith) (omega arith) (omega arith) (omega arith)
