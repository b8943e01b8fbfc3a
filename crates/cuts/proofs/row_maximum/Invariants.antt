-- `row_maximum` meets its contract: after as many ends from t on as the loop has seen, `maximum` is the greatest score at these ends.
use Prim.Native.Nat.{◌+◌}
use Rattle.cuts.specs.Sums.{table_score}
use Rattle.cuts.specs.Steps.{GreatestOf}
use Rattle.cuts.proofs.row_maximum.Given as goal

abbrev pub invariant-loop-score : goal.invariant-loop-score
invariant-loop-score l = GreatestOf (table_score l.scores l.t) l.t (l.t + l.score-index) l.maximum
