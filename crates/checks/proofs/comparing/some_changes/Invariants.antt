-- `some_changes` meets its contract: before the turn of a row the set is the union over the rows before it.
use Rattle.sets.specs.Members.{members}
use Rattle.checks.specs.Changes.{change_at, UnionOver}
use Rattle.checks.proofs.comparing.some_changes.Given as goal

abbrev pub invariant-loop-w : goal.invariant-loop-w
invariant-loop-w g l = UnionOver (change_at l.tick l.before) l.u l.w (members l.all)
