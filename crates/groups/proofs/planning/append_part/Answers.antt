-- `append_part` meets its contract: the score that is given and the members found are those of the run's part.
use Prim.Native.Nat.{◌<◌}
use native.Mathlib.Omega.{arith}
use Rattle.sets.specs.Members.{members}
use Rattle.records.proofs.WithinLimits.{limits_of}
use Rattle.groups.proofs.PartFound.{part-found}
use Rattle.groups.proofs.planning.append_part.Goals as goal
use Rattle.groups.proofs.planning.append_part.Goals.{Start}

-- no tick is large
small : (c : goal.Start) → (c.args.span.first < 256) × (c.args.span.last < 256)
small c =
    let l = limits_of c.args.day.now.lent.limits in
    (omega (arith, c.args.span.rising, c.requires.0, l.short), omega (arith, c.requires.0, l.short))

pub overflow_cast-part : goal.overflow_cast-part
overflow_cast-part c = omega (arith, (small (goal.at.overflow_cast-part c).Start).0)

pub overflow_cast-part-2 : goal.overflow_cast-part-2
overflow_cast-part-2 c = omega (arith, (small (goal.at.overflow_cast-part-2 c).Start).1)

pub part_members-requires : goal.part_members-requires
part_members-requires c = let p = c.requires in (p.0, p.1)

pub overflow_add-form : goal.overflow_add-form
overflow_add-form c = omega (arith, c.requires.2)

pub append_record-requires : goal.append_record-requires
append_record-requires c = let p = c.requires in (p.2, p.3)

pub returns : goal.returns
returns c =
    let d = c.args.day.now in
    rw (part-found d.lent c.args.span.rising c.requires.0 d.reviewed (members c.args.query) c.requires.1 c.part_members.ensures) at c.append_record.ensures
