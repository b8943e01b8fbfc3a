-- `row_maximum` meets its contract: after as many ends from t on as the loop has seen, `maximum` is the greatest score at these ends.
use Prim.Native.Nat.{ℕ, ◌*◌}
use native.Mathlib.Omega.{arith}
use borrow.Rule.Slice.PartMut.{mid_len}
use Rattle.std.proofs.lemmas.Bool.Decides.{nat_tests}
use Rattle.cuts.specs.Sums.{table_score}
use Rattle.cuts.proofs.Greatest.{greatest-none, greatest-next, greatest-all}
use Rattle.cuts.proofs.Steps.{column-at}
use Rattle.cuts.proofs.row_maximum.Goals as goal

pub loop-score-init : goal.loop-score-init
loop-score-init c = greatest-all greatest-none (omega arith)

pub loop-score-preserved : goal.loop-score-preserved
unfolding table_score
loop-score-preserved c =
    let p = column-at c.args.scores.now (c.args.t * 96) c.args.t c.args.ticks c.loop-score-test.true in
    greatest-all (greatest-next c.loop-score.invariant (omega arith) p.1 (grind (arith, nat_tests))) (omega arith)

pub returns : goal.returns
returns c = greatest-all c.loop-score.invariant (omega (arith, mid_len {X = ℕ}))
