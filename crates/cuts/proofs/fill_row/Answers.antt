-- `fill_row` meets its contract: where the loop is about to go below column t, row c + 1 is filled from t on, `rest` is the greatest sum that row c has
-- after these columns, and the rows up to c are as they were.
use native.Mathlib.Omega.{arith}
use Rattle.std.proofs.lemmas.Bool.Decides.{nat_tests}
use Rattle.cuts.proofs.Maxima.{row-bound}
use Rattle.cuts.proofs.Steps.{table-small, partly-all, row-none, rest-in-table, row_more}
use Rattle.cuts.proofs.fill_row.Goals as goal

pub loop-t-init : goal.loop-t-init
loop-t-init c = (omega arith, omega arith, omega arith, omega arith, row-none c.requires.4)

pub sum_from-requires : goal.sum_from-requires
sum_from-requires c =
    let b = c.loop-t.invariant.4 in record {
      small = table-small _ _ b.partly.rows (omega arith) (omega arith) (omega arith);
      row_known = (row-bound c.requires.3 (omega arith) (omega arith), rest-in-table b _ (omega arith) (omega arith) (omega arith) (grind (arith, nat_tests)));
    }

pub loop-t-preserved : goal.loop-t-preserved
loop-t-preserved c =
    let i = c.loop-t.invariant in
    (i.0, i.1, omega arith, omega arith, row_more i.4 _ (omega arith) (omega arith) (omega arith) (grind (arith, nat_tests)) _ (omega arith) c.sum_from.ensures)

pub returns : goal.returns
returns c = partly-all c.loop-t.invariant.4.partly (omega arith) (omega arith) (omega arith)
