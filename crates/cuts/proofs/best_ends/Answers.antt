-- `best_ends` meets its contract: the rows below c are filled, and in the end those that the walk reads.
use mathlib.Core.Path.{sym, ◌∙◌}
use native.Mathlib.Omega.{arith}
use borrow.Author.Tests.{ltb-false}
use Rattle.cuts.proofs.EndsOf.{ends_some, ends-none}
use Rattle.cuts.proofs.Steps.{filled-fewer}
use Rattle.cuts.proofs.best_ends.Goals as goal

pub returns-then-parts-lt1 : goal.returns-then-parts-lt1
returns-then-parts-lt1 c =
    sym (ends-none _ _ _ (λ l m n. elim c.then-parts-lt1.branch [
      | goal.then-parts-lt1-via-then-parts-lt1 w ↦ omega arith
      | goal.then-parts-lt1-via-else-parts-lt1+then-ticks-parts w ↦ omega arith
      | goal.then-parts-lt1-via-else-parts-lt1+else-ticks-parts+then-ticks-gt-TICKS w ↦ omega arith
    ]))

pub row_maxima-maxima-requires : goal.row_maxima-maxima-requires
row_maxima-maxima-requires c = omega (arith, ltb-false)

pub fill_first-requires : goal.fill_first-requires
fill_first-requires c = omega (arith, ltb-false)

pub loop-c-init : goal.loop-c-init
loop-c-init c = (omega arith, omega (arith, ltb-false), omega (arith, ltb-false), c.fill_first.ensures)

pub loop-c-preserved : goal.loop-c-preserved
loop-c-preserved c = (omega arith, omega arith, omega arith, filled-fewer c.fill_row.ensures (omega arith))

pub walk_ends-requires : goal.walk_ends-requires
walk_ends-requires c =
    let i = c.loop-c.invariant in
    (i.0, i.1, i.2, filled-fewer i.3 (omega arith))

pub returns : goal.returns
returns c =
    let i = c.loop-c.invariant in
    c.walk_ends.ensures ∙ sym (ends_some _ _ _ i.0 i.1 i.2)
