-- `put_line` meets its contract: at the turn of a last tick the scores of the runs that end before it are in the table.
use mathlib.Core.Path.{◌≡◌, sym, ◌∙◌}
use native.Mathlib.Omega.{arith}
use borrow.Author.Rules.{rules}
use Rattle.groups.proofs.ScoreLines.{putting-start, place_inside, putting-next}
use Rattle.groups.proofs.scoring.put_line.Goals as goal

pub loop-last-init : goal.loop-last-init
loop-last-init c = (search rules, omega (arith, c.requires.inside), putting-start c.requires)

pub bounds-line-last : goal.bounds-line-last
bounds-line-last c = omega (arith, c.requires.short, c.loop-last-test.true)

pub overflow_mul-scores : goal.overflow_mul-scores
overflow_mul-scores c = omega (arith, c.requires.inside, c.requires.short)

pub overflow_add-scores : goal.overflow_add-scores
overflow_add-scores c = omega (arith, c.requires.inside, c.requires.short, c.loop-last-test.true)

pub bounds-scores-first : goal.bounds-scores-first
bounds-scores-first c = place_inside c.requires c.loop-last.invariant.2 c.loop-last.invariant.0 c.loop-last-test.true

pub loop-last-preserved : goal.loop-last-preserved
loop-last-preserved c =
    (search rules, search rules, putting-next c.requires c.loop-last.invariant.2 c.loop-last.invariant.0 c.loop-last-test.true)

pub shape_of-scores : goal.shape_of-scores
shape_of-scores c = c.loop-last.invariant.2.size ∙ sym c.requires.scores_size

pub returns : goal.returns
returns c =
    let e : c.loop-last.last ≡ c.args.ticks = omega (arith, c.loop-last-test.false) in
    rw e at c.loop-last.invariant.2
