-- `peeling::look_at` meets its contract: the tests compare the size that the definitions compare.
use mathlib.Core.Path.{◌≡◌, ◌∙◌}
use Prim.Native.Nat.{ℕ, min}
use native.Mathlib.Omega.{arith}
use Rattle.sets.specs.Members.{members}
use Rattle.cores.specs.Rows.{graph}
use Rattle.cores.specs.Passes.{LookedAt}
use Rattle.cores.proofs.Peelings.{low-dropped, low-skipped, high-kept, high_taken}
use Rattle.cores.proofs.peeling.look_at.Goals as goal
use Rattle.cores.proofs.peeling.look_at.Goals.{Else-degree-order}

pub returns-then-degree-order : goal.returns-then-degree-order
returns-then-degree-order c =
    let low = rw c.degree_in-degree.ensures at c.if-degree-order.true in
    record { members = c.without.ensures ∙ low-dropped _ _ _ _ low; least = low-skipped _ _ _ _ _ low }

-- a badge that stays: the members stay, and the least degree is the smaller of two
stays : (c : goal.Else-degree-order) (least : ℕ) →
    let a = c.args in
    least ≡ min a.kept.least c.degree_in-degree.result → LookedAt (graph a.rows.now) a.order a.u (members a.kept.members) a.kept.least (members a.kept.members) least
stays c least e =
    let d = c.degree_in-degree.ensures in
    let high = rw d at c.if-degree-order.false in
    record { members = high-kept _ _ _ _ high; least = rw d at e ∙ high_taken _ _ _ _ _ high }

pub returns-then-degree-kept : goal.returns-then-degree-kept
returns-then-degree-kept c = stays (goal.at.returns-then-degree-kept c).Else-degree-order _ (omega arith)

pub returns : goal.returns
returns c = stays (goal.at.returns c).Else-degree-order _ (omega arith)
