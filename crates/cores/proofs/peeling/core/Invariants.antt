-- `peeling::core` meets its contract. What is left is a subset of the base and holds its core; a pass that drops nobody shows that it is
-- cohesive. The loop ends as what is left gets smaller.
use Rattle.sets.specs.Sets.{size}
use Rattle.sets.specs.Members.{members}
use Rattle.cores.specs.Rows.{graph}
use Rattle.cores.proofs.Peelings.{Peeling}
use Rattle.cores.proofs.peeling.core.Given as goal

abbrev pub invariant-loop-members : goal.invariant-loop-members
invariant-loop-members l = Peeling (graph l.rows) (members l.initial.left) l.order (members l.left)

abbrev pub decreases-loop-members : goal.decreases-loop-members
decreases-loop-members l = size (members l.left)
