-- `Runs::greatest_sum` meets its contract: before end e of the loop, `greatest` is the greatest sum at the ends t to e - 1.
use Prim.Native.Nat.{suc, ◌*◌, ◌≤◌}
use Rattle.cuts.specs.Steps.{run_sum, GreatestOf}
use Rattle.cuts.proofs.Runs.greatest_sum.Given as goal

abbrev pub invariant-loop-e : goal.invariant-loop-e
invariant-loop-e l =
    (l.fn.self.t ≤ l.e) × (l.e ≤ l.fn.self.stop) × (l.greatest ≤ 255 * suc (suc l.fn.self.c)) × GreatestOf (run_sum l.scores l.sums l.fn.self.c l.fn.self.t) l.fn.self.t l.e l.greatest
