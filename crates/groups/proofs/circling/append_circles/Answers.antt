-- `append_circles` meets its contract: the records appended, and those of the circles of the members that are left, are those of the core. The walk
-- ends as the members that are left get fewer.
use mathlib.Core.Bool.{not}
use mathlib.Core.Path.{ap}
use Prim.Native.Nat.{◌^◌, ◌<◌}
use native.Mathlib.Omega.{arith}
use Rattle.sets.specs.Members.{capacity, members}
use Rattle.sets.proofs.Pairs.{members-lt}
use Rattle.sets.proofs.Walks.{none-unseen}
use Rattle.circles.proofs.Counting.{some_left}
use Rattle.groups.specs.Keeping.{core_of}
use Rattle.groups.proofs.CircleLoop.{write-start, write-room, write-more, write-less, write-end}
use Rattle.groups.proofs.circling.append_circles.Goals as goal
use Rattle.groups.proofs.circling.append_circles.Goals.{Start}

-- the core has badges below the capacity alone
small : (s : goal.Start) → members s.args.core.members < 2 ^ capacity
small s = members-lt s.args.core.members (omega arith) (omega arith)

pub loop-form-init : goal.loop-form-init
loop-form-init c = let a = c.args in write-start (core_of a.core) a.enough _ _ _ _ _ _

pub append_circle-so_far-requires : goal.append_circle-so_far-requires
append_circle-so_far-requires c =
    let known = small (goal.at.append_circle-so_far-requires c).Start in
    rw c.circle_of-circle.ensures (write-room (core_of c.args.core) c.args.enough known c.loop-form.invariant (some_left c.is_empty.ensures (ap not c.loop-form-test.true)) c.requires)

pub loop-form-smaller : goal.loop-form-smaller
loop-form-smaller c =
    let known = small (goal.at.loop-form-smaller c).Start in
    rw (c.difference-left.ensures, c.circle_of-circle.ensures) (write-less (core_of c.args.core) c.args.enough known c.loop-form.invariant (some_left c.is_empty.ensures (ap not c.loop-form-test.true)))

pub loop-form-preserved : goal.loop-form-preserved
loop-form-preserved c =
    let known = small (goal.at.loop-form-preserved c).Start in
    let appended = rw c.circle_of-circle.ensures at c.append_circle-so_far.ensures in
    rw (c.difference-left.ensures, c.circle_of-circle.ensures) (write-more (core_of c.args.core) c.args.enough known c.loop-form.invariant (some_left c.is_empty.ensures (ap not c.loop-form-test.true)) appended)

pub returns : goal.returns
returns c =
    let known = small (goal.at.returns c).Start in
    write-end (core_of c.args.core) c.args.enough known c.loop-form.invariant (none-unseen c.is_empty.ensures (ap not c.loop-form-test.false))
