-- `Runs::sum` meets its contract: the score and the table's entry that it adds are those of the definition.
use Rattle.cuts.proofs.Steps.{run-sum-in}
use Rattle.cuts.proofs.Runs.sum.Goals as goal

pub returns : goal.returns
returns c = rw c.from-2.ensures (run-sum-in _ _ _ _ _ c.from.ensures)
