-- `Runs::sum_from` meets its contract: where no run from t has a score above 0, the greatest sum is that of the runs after it.
use native.Mathlib.Omega.{arith}
use Rattle.cuts.proofs.Maxima.{sum-of-rest}
use Rattle.cuts.proofs.Runs.sum_from.Goals as goal

pub returns-then-maximum-eq0 : goal.returns-then-maximum-eq0
returns-then-maximum-eq0 c = let r = c.requires.row_known in sum-of-rest r.0 (omega arith) c.requires.small r.1
