-- `peeling::keep` meets its contract. Its loop's invariant: the words hold the rows of the members that are no longer to come, and empty rows else.
use mathlib.Core.Path.{◌∙◌}
use Prim.Native.Nat.{◌<◌}
use native.Mathlib.Omega.{arith}
use Rattle.sets.specs.Sets.{In}
use Rattle.sets.specs.Members.{capacity, members}
use Rattle.sets.proofs.Sets.{sub_refl}
use Rattle.sets.proofs.Pairs.{members-lt}
use Rattle.sets.proofs.Walks.{at-turn, unseen-less}
use Rattle.cores.proofs.KeptRows.{seen-length, keep-start, keep-next, keep-end}
use Rattle.cores.proofs.peeling.keep.Goals as goal
use Rattle.cores.proofs.peeling.keep.Goals.{In-Some}

pub loop-u-init : goal.loop-u-init
loop-u-init c = rw (c.into_iter-u-iterator.ensures.into_iter_gives, c.badges-u-items.ensures) (sub_refl _, keep-start _ _)

-- the badge at hand is one of those to come, and below the capacity
here : (c : goal.In-Some) → In (members c.loop-u.u-iterator.left) c.in-Some.u × (c.in-Some.u < capacity)
here c = at-turn c.loop-u.invariant.0 (members-lt c.args.kept (omega arith) (omega arith)) c.in-Some.ensures.steps

pub slice_bounds-put_set-end : goal.slice_bounds-put_set-end
slice_bounds-put_set-end c = seen-length _ _ _ c.loop-u.invariant.1

pub loop-u-preserved : goal.loop-u-preserved
loop-u-preserved c =
    let i = here (goal.at.loop-u-preserved c).In-Some in
    let h = c.loop-u.invariant in
    rw c.in-Some.ensures.steps.2 (unseen-less _ h.0, c.put_set.ensures ∙ keep-next _ _ h.0 i.0 i.1 c.set_at.ensures h.1)

pub returns : goal.returns
returns c = keep-end _ _ c.in-None.ensures.steps.0 c.loop-u.invariant.1
