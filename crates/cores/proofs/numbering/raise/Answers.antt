-- `numbering::raise` meets its contract. Its loop's invariant: the members that are no longer to come have the number k.
use mathlib.Core.Path.{◌≡◌, refl, ◌∙◌}
use Prim.Native.Nat.{ℕ, ◌<◌}
use native.Mathlib.Omega.{arith}
use borrow.Author.Rules.{rules}
use lib.ListN.{length, get_or}
use Rattle.sets.specs.Sets.{In}
use Rattle.sets.specs.Members.{capacity, members}
use Rattle.sets.proofs.Sets.{sub_refl}
use Rattle.sets.proofs.Pairs.{members-lt}
use Rattle.sets.proofs.Tables.{tabulate-is}
use Rattle.sets.proofs.Walks.{at-turn, unseen-less, fill_start, fill-next, fill_end}
use Rattle.cores.specs.Passes.{raised}
use Rattle.cores.proofs.numbering.raise.Goals as goal
use Rattle.cores.proofs.numbering.raise.Goals.{In-Some}

pub loop-u-init : goal.loop-u-init
loop-u-init c =
    let a = c.args in
    let full : length a.numbers.now ≡ capacity = search rules in
    let was : ℕ → ℕ = λ u. get_or a.numbers.now u 0 in
    rw (c.into_iter-u-iterator.ensures.into_iter_gives, c.badges-u-items.ensures)
    (sub_refl _, tabulate-is capacity a.numbers.now was full (λ i l. refl) ∙ fill_start capacity (members a.s) (λ u. a.k) was)

-- the badge at hand is one of those to come, and below the capacity
here : (c : goal.In-Some) → In (members c.loop-u.u-iterator.left) c.in-Some.u × (c.in-Some.u < capacity)
here c = at-turn c.loop-u.invariant.0 (members-lt c.args.s (omega arith) (omega arith)) c.in-Some.ensures.steps

pub bounds-numbers-u : goal.bounds-numbers-u
bounds-numbers-u c = (here (goal.at.bounds-numbers-u c).In-Some).1

pub loop-u-preserved : goal.loop-u-preserved
loop-u-preserved c =
    let i = here (goal.at.loop-u-preserved c).In-Some in
    let h = c.loop-u.invariant in
    rw c.in-Some.ensures.steps.2 (unseen-less _ h.0, fill-next capacity _ _ _ h.0 i.0 i.1 refl h.1)

pub returns : goal.returns
unfolding raised
returns c = fill_end capacity _ _ _ c.in-None.ensures.steps.0 c.loop-u.invariant.1
