-- `circle_of` meets its contract: a set without badges in its upper word is its lower word.
use mathlib.Core.Path.{sym, ap, ◌∙◌}
use Rattle.sets.specs.Members.{members}
use Rattle.sets.proofs.Pairs.{lower-alone}
use Rattle.cores.specs.Rows.{graph}
use Rattle.circles.specs.Circles.{first_circle}
use Rattle.circles.proofs.circle_of.Goals as goal

pub returns-then-word-eq0 : goal.returns-then-word-eq0
returns-then-word-eq0 c =
    let a = c.args in
    c.from_word.ensures ∙ c.circle_in_word.ensures
    ∙ ap (first_circle (graph a.rows.now)) (c.word-then-word-eq0.ensures ∙ lower-alone (members a.s) (sym c.word.ensures ∙ c.if-word-eq0.true))

pub returns : goal.returns
returns c = c.circle_in_words.ensures
