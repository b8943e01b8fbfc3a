-- `row_maxima` meets its contract: before first tick t of the loop the greatest scores of the rows below t are held.
use native.Mathlib.Omega.{arith}
use Rattle.cuts.proofs.Maxima.{maxima-none, maxima-more, maxima-all}
use Rattle.cuts.proofs.row_maxima.Goals as goal

pub loop-t-init : goal.loop-t-init
loop-t-init c = (omega arith, maxima-none)

pub loop-t-preserved : goal.loop-t-preserved
loop-t-preserved c = (omega arith, maxima-more c.loop-t.invariant.1 (omega arith) c.row_maximum.ensures)

pub returns : goal.returns
returns c = maxima-all c.loop-t.invariant.1 (omega arith)
