-- `fill_scores` meets its contract: at the turn of `first` the runs that start before it are scored, and the scores of those that start one
-- tick before it are at hand.
use mathlib.Core.Path.{sym, ◌∙◌}
use Rattle.groups.proofs.ScoreLines.{scored-none, scored-places, scored-more, scored-all}
use Rattle.groups.proofs.scoring.fill_scores.Goals as goal

pub loop-first-init : goal.loop-first-init
loop-first-init c = scored-none c.args.day.now.lent _ _ c.requires

pub find_line-requires : goal.find_line-requires
find_line-requires c = (c.loop-first-test.true, c.loop-first.invariant.before)

pub put_line-requires : goal.put_line-requires
put_line-requires c = scored-places c.args.day.now.lent c.loop-first.invariant c.loop-first-test.true c.find_line.ensures

pub loop-first-preserved : goal.loop-first-preserved
loop-first-preserved c = scored-more c.args.day.now.lent c.loop-first.invariant c.loop-first-test.true c.find_line.ensures c.put_line.ensures

pub shape_of-scores : goal.shape_of-scores
shape_of-scores c = c.loop-first.invariant.found.size ∙ sym c.requires

pub returns : goal.returns
returns c = scored-all c.loop-first.invariant c.loop-first-test.false
