-- `append_circle` meets its contract: with too few members nothing is appended; else the record is.
use Prim.Native.Nat.{◌≤◌, ◌<◌}
use Rattle.sets.specs.Sets.{size}
use Rattle.sets.specs.Members.{members}
use Rattle.circles.proofs.Counting.{one-counted}
use Rattle.groups.specs.Keeping.{core_of}
use Rattle.groups.proofs.Appended.{appends-none}
use Rattle.groups.proofs.CircleLoop.{circle-room, large-one, large-none}
use Rattle.groups.proofs.circling.append_circle.Goals as goal
use Rattle.groups.proofs.circling.append_circle.Goals.{After-append_record, Else-size-enough}

pub returns-then-size-enough : goal.returns-then-size-enough
returns-then-size-enough c =
    let a = c.args in
    let low : size (members a.circle) < a.enough = rw c.size.ensures at c.if-size-enough.true in
    rw (large-none (core_of a.core) a.enough (members a.circle) low) appends-none

pub append_record-requires : goal.append_record-requires
append_record-requires c =
    let e = (goal.at.append_record-requires c).Else-size-enough in
    let many : c.args.enough ≤ size (members c.args.circle) = rw e.size.ensures at e.if-size-enough.false in
    circle-room c.requires (one-counted c.args.enough (members c.args.circle) many)

pub returns : goal.returns
returns c =
    let r = (goal.at.returns c).After-append_record in
    let a = c.args in
    let many : a.enough ≤ size (members a.circle) = rw c.size.ensures at c.if-size-enough.false in
    rw (large-one (core_of a.core) a.enough (members a.circle) many) r.append_record.ensures
