-- `peeling::core` meets its contract. What is left is a subset of the base and holds its core; a pass that drops nobody shows that it is
-- cohesive. The loop ends as what is left gets smaller.
use mathlib.Core.Path.{sym, ◌∙◌}
use Rattle.sets.proofs.Bools.{clash}
use Rattle.sets.proofs.Sets.{is-sub-in, is-sub-of}
use Rattle.cores.proofs.Peelings.{peel-none, peel-more, peel-less, peel-done}
use Rattle.cores.proofs.peeling.core.Goals as goal

pub loop-members-init : goal.loop-members-init
loop-members-init c = peel-none _ _ _

pub returns-then-is_subset : goal.returns-then-is_subset
returns-then-is_subset c = peel-done c.loop-members.invariant c.pass-next.ensures (is-sub-of _ _ (sym c.is_subset.ensures ∙ c.if-is_subset.true))

pub loop-members-smaller : goal.loop-members-smaller
loop-members-smaller c = peel-less c.loop-members.invariant c.pass-next.ensures (λ h. clash (c.is_subset.ensures ∙ is-sub-in h) c.if-is_subset.false)

pub loop-members-preserved : goal.loop-members-preserved
loop-members-preserved c = peel-more c.loop-members.invariant c.pass-next.ensures
