-- `change_at` meets its contract: what changes in a row, word by word.
use mathlib.Core.Path.{◌∙◌}
use native.Mathlib.Omega.{arith}
use Rattle.sets.specs.Words.{Words}
use Rattle.checks.proofs.TwoWords.{change-two}
use Rattle.checks.proofs.comparing.change_at.Goals as goal
use Rattle.checks.proofs.comparing.change_at.Goals.{After-shared_slice_known-1}

pub returns : goal.returns
returns c =
    let t = (goal.at.returns c).After-shared_slice_known-1 in
    let s = t.before in
    let a = s.args in
    let fits-tick : Words a.tick.now = record { at = λ i l. omega (arith, t.shared_slice_known-1.given i) } in
    let fits-before : Words a.before.now = record { at = λ i l. omega (arith, c.shared_slice_known-2-1.given i) } in
    c.from_words.ensures ∙ change-two _ _ a.u fits-tick fits-before s.requires.0 s.requires.1
