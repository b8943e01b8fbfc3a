-- `Runs::best_end` meets its contract: before end e of the loop, `end` is the first of the ends t to e - 1 with the greatest sum, `greatest`.
use Prim.Native.Nat.{◌≤◌}
use Rattle.cuts.specs.Steps.{run_sum}
use Rattle.cuts.proofs.Steps.{Tried}
use Rattle.cuts.proofs.Runs.best_end.Given as goal

abbrev pub invariant-loop-e : goal.invariant-loop-e
invariant-loop-e l = (l.e ≤ l.self.stop) × Tried (run_sum l.scores l.sums l.self.c l.self.t) l.self.t l.e l.end l.greatest
