-- group_at meets its contract: the bytes of the record are where decoding looks for them.
use mathlib.Core.Path.{sym}
use Rattle.text.proofs.LinesShown.{record-at}
use Rattle.text.proofs.shown.group_at.Goals as goal

pub returns : goal.returns
returns c =
    let a = c.args in
    sym (record-at a.report.now a.at a.width c.requires.0 c.byte_at.ensures c.byte_at-2.ensures c.byte_at-3.ensures c.word_at-low.ensures c.word_at-high.ensures c.from_words.ensures)
