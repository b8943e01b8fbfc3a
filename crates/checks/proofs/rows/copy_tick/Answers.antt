-- `copy_tick` meets its contract: the words copied are those of the tick's sets, as far as there are rows, and the others stay.
use mathlib.Core.Path.{◌∙◌}
use native.Mathlib.Omega.{arith}
use Rattle.sets.specs.Words.{Words}
use Rattle.checks.proofs.TickRows.{over-copied}
use Rattle.checks.proofs.rows.copy_tick.Goals as goal

pub returns : goal.returns
returns c =
    let fits-tick : Words c.args.tick.now = record { at = λ i l. omega (arith, c.type_inv.tick i) } in
    let fits-rows : Words c.args.rows.now = record { at = λ i l. omega (arith, c.fits-rows i) } in
    c.copy_words.ensures ∙ over-copied _ _ fits-tick fits-rows c.told-rows c.min-count.ensures
