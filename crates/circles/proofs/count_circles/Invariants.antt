-- `count_circles` meets its contract. The circles counted with those of the members that are left are those of the set. The walk ends as the
-- members that are left get fewer.
use Rattle.sets.specs.Sets.{size}
use Rattle.sets.specs.Members.{members}
use Rattle.cores.specs.Rows.{graph}
use Rattle.circles.proofs.Counting.{Counts}
use Rattle.circles.proofs.count_circles.Given as goal

abbrev pub invariant-loop-left : goal.invariant-loop-left
invariant-loop-left l = Counts (graph l.rows) (members l.initial.left) l.least l.all l.large (members l.left)

abbrev pub decreases-loop-left : goal.decreases-loop-left
decreases-loop-left l = size (members l.left)
