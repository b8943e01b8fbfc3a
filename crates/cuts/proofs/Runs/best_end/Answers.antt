-- `Runs::best_end` meets its contract: before end e of the loop, `end` is the first of the ends t to e - 1 with the greatest sum, `greatest`.
use native.Mathlib.Omega.{arith}
use Rattle.cuts.proofs.Steps.{tried-one, tried-take, tried-keep, tried-all}
use Rattle.cuts.proofs.Runs.best_end.Goals as goal

pub loop-e-init : goal.loop-e-init
loop-e-init c = (omega arith, tried-one c.sum-greatest.ensures)

pub loop-e-preserved : goal.loop-e-preserved
loop-e-preserved c =
    let i = c.loop-e.invariant.1 in
    let s = c.sum-sum.ensures in (
      omega arith,
      elim c.if-greatest-sum.branch [ goal.then-greatest-sum h ↦ rw (h.end-is, h.greatest-is) (tried-take i s h.if-greatest-sum.true) | goal.else-greatest-sum h ↦ rw (h.end-is, h.greatest-is) (tried-keep i s h.if-greatest-sum.false) ],
    )

pub returns : goal.returns
returns c = tried-all _ c.loop-e.invariant.1 (omega arith)
