-- `fill_scores` meets its contract: at the turn of `first` the runs that start before it are scored, and the scores of those that start one
-- tick before it are at hand.
use Rattle.sets.specs.Members.{members}
use Rattle.groups.proofs.ScoreLines.{ScoredBefore}
use Rattle.groups.proofs.scoring.fill_scores.Given as goal

abbrev pub invariant-loop-first : goal.invariant-loop-first
invariant-loop-first l =
    ScoredBefore l.day.badges l.day.ticks l.day.words.now (members l.day.review) (members l.query) l.first l.line l.scores
