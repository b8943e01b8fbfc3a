-- `set_at` meets its contract: at a place that the words reach stand two words.
use mathlib.Core.Path.{sym}
use Rattle.sets.specs.Words.{from_words}
use Rattle.sets.proofs.Places.{set-at-out, set-at-two}
use Rattle.sets.proofs.set_at.Goals as goal
use Rattle.sets.proofs.set_at.Goals.{Then-i-words}

pub returns-then-i-words : goal.returns-then-i-words
returns-then-i-words c =
    let a = c.args in
    sym (set-at-two a.words.now a.i c.if-i-words.true)

pub returns : goal.returns
unfolding from_words
returns c = let a = c.args in sym (set-at-out a.words.now a.i c.if-i-words.false)
