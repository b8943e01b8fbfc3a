-- `fill_first` meets its contract: before column t of the loop row 0 is filled from column parts - 1 to column t - 1.
use native.Mathlib.Omega.{arith}
use Rattle.cuts.proofs.Steps.{filled_none, partly_none, partly_more, partly-all, no_cut}
use Rattle.cuts.proofs.fill_first.Goals as goal

pub loop-t-init : goal.loop-t-init
loop-t-init c = (omega arith, partly_none (filled_none c.requires.3))

pub loop-t-preserved : goal.loop-t-preserved
loop-t-preserved c =
    let l = c.loop-t in (
      omega arith,
      partly_more l.invariant.1 l.t l.t _ (λ s l m d. (l, omega arith)) (omega arith) (omega arith) (omega arith) (no_cut _ _ _ _ c.from.ensures) (omega (arith, c.from.ensures)),
    )

pub returns : goal.returns
returns c = partly-all c.loop-t.invariant.1 (omega arith) (omega arith) (omega arith)
