-- `append_circles` meets its contract: the records appended, and those of the circles of the members that are left, are those of the core. The walk
-- ends as the members that are left get fewer.
use Rattle.sets.specs.Sets.{size}
use Rattle.sets.specs.Members.{members}
use Rattle.cores.specs.Rows.{graph}
use Rattle.groups.specs.Keeping.{core_of}
use Rattle.groups.proofs.CircleLoop.{Writes}
use Rattle.groups.proofs.circling.append_circles.Given as goal

abbrev pub invariant-loop-form : goal.invariant-loop-form
invariant-loop-form l = Writes (core_of l.core) l.enough l.form.group l.form.width (graph l.rows) (members l.core.members) l.count l.initial.buffer l.so_far (members l.left) l.buffer

abbrev pub decreases-loop-form : goal.decreases-loop-form
decreases-loop-form l = size (members l.left)
