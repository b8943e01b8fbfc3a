-- `toggle` meets its contract: the badges change in one word of the row.
use native.Mathlib.Omega.{arith}
use Rattle.sets.specs.Words.{Words}
use Rattle.sets.proofs.OneWord.{toggle-word}
use Rattle.checks.proofs.checking.toggle.Goals as goal

pub returns : goal.returns
returns c =
    let a = c.args in
    let fit : Words a.known.now = record { at = λ i l. omega (arith, c.slice_known-1.given i) } in
    toggle-word _ a.v a.i a.word fit c.requires.0 c.requires.1 (omega arith)
