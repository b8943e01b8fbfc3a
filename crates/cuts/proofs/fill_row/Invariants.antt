-- `fill_row` meets its contract: where the loop is about to go below column t, row c + 1 is filled from t on, `rest` is the greatest sum that row c has
-- after these columns, and the rows up to c are as they were.
use mathlib.Core.Path.{◌≡◌}
use Prim.Native.Nat.{◌+◌, ◌≤◌}
use Rattle.cuts.proofs.Steps.{RowFrom}
use Rattle.cuts.proofs.fill_row.Given as goal

abbrev pub invariant-loop-t : goal.invariant-loop-t
invariant-loop-t l =
    (l.first + l.c + 2 ≡ l.parts) × (l.stop + l.c + 1 ≡ l.ticks) × (l.first ≤ l.t) × (l.t ≤ l.stop) × RowFrom l.scores l.ticks l.parts l.c l.t l.rest l.sums
