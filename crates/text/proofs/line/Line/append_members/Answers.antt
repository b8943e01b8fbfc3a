-- append_members meets its contract: before each turn of the loop the line, and the members that are still to come, are the old line and all members.
use mathlib.Core.Path.{sym, ap, ◌∙◌}
use mathlib.Core.List.{List, ◌++◌, append_assoc, append-nil}
use Prim.Native.Nat.{ℕ, ◌^◌, ◌<◌}
use native.Mathlib.Omega.{arith}
use Rattle.sets.specs.Members.{capacity, members}
use Rattle.sets.proofs.Sets.{sub-lt}
use Rattle.sets.proofs.Pairs.{members-lt}
use Rattle.sets.proofs.Walks.{unseen-less}
use Rattle.text.proofs.Appended.{member-next, member-end, listed_room}
use Rattle.text.proofs.line.Line.append_members.Goals as goal

pub append_field-requires : goal.append_field-requires
append_field-requires c = omega (arith, listed_room _ _ _ _ c.loop-u.invariant.listed, c.requires)

pub loop-u-preserved : goal.loop-u-preserved
loop-u-preserved c =
    let i = c.loop-u.invariant in
    let t = c.in-Some.ensures.steps in
    let low : members c.loop-u.u-iterator.left < 2 ^ capacity = sub-lt capacity _ _ i.some (members-lt c.args.set (omega arith) (omega arith)) in
    record {
      some = rw t.2 (unseen-less _ i.some);
      listed = rw (c.append_field.ensures.appends, append_assoc, ← member-next low t) i.listed;
    }

pub returns : goal.returns
returns c =
    let i = c.loop-u.invariant in
    let all = sym (append-nil _) ∙ ap (λ (x : List ℕ). c.loop-u.self ++ x) (sym (member-end c.in-None.ensures.steps)) ∙ i.listed in
    record { appends = all; upper_bound = listed_room _ _ _ _ i.listed }
