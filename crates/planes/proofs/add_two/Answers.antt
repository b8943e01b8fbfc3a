-- `add_two` meets its contract: a full adder in the first plane, whose carry goes on.
use mathlib.Core.List.{[], ◌∷◌}
use Rattle.planes.proofs.Lanes.{added, two-plus}
use Rattle.planes.proofs.add_two.Goals as goal

pub returns : goal.returns
unfolding added
returns c =
    let a = c.args in
    let p = a.p in
    two-plus p.p0 (p.p1 ∷ p.p2 ∷ p.p3 ∷ p.p4 ∷ p.p5 ∷ p.p6 ∷ p.p7 ∷ []) a.a a.b c.full_add-ones.ensures
