-- word_at meets its contract: the bytes stand at the start of a word of zeros.
use mathlib.Core.Path.{◌∙◌}
use native.Mathlib.Omega.{arith}
use lib.ListN.{drop, length-take}
use Rattle.text.proofs.LinesShown.{word-said}
use Rattle.text.proofs.shown.word_at.Goals as goal

pub returns : goal.returns
returns c =
    let a = c.args in
    c.from_le_bytes.ensures ∙ rw (c.put.ensures, c.bytes_at.ensures) (word-said _ (omega (arith, length-take a.size (drop a.at a.bytes.now), c.requires)))
