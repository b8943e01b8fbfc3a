-- `circle_in_words` meets its contract. Who is reached is joined to the smallest member, and who is reached and not on the frontier has no neighbour that is
-- unreached; where nobody is unreached, or nobody is on the frontier, the circle is reached. The walk ends as those on the frontier and unreached get fewer.
use Rattle.sets.specs.Sets.{union, size, smallest}
use Rattle.sets.specs.Members.{capacity, members}
use Rattle.cores.specs.Rows.{graph}
use Rattle.circles.proofs.Walking.{Walks}
use Rattle.circles.proofs.circle_in_words.Given as goal

abbrev pub invariant-loop-unreached : goal.invariant-loop-unreached
invariant-loop-unreached l = Walks (graph l.rows) (members l.s) (smallest capacity (members l.s)) (members l.unreached) (members l.frontier)

abbrev pub decreases-loop-unreached : goal.decreases-loop-unreached
decreases-loop-unreached l = size (union (members l.frontier) (members l.unreached))
