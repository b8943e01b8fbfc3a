-- `add_eight` meets its contract: seven full adders in the lowest three planes, whose carry goes on.
use mathlib.Core.List.{[], ◌∷◌}
use Rattle.planes.proofs.Lanes.{added, eight-plus}
use Rattle.planes.proofs.add_eight.Goals as goal

pub returns : goal.returns
unfolding added
returns c =
    let a = c.args in
    let p = a.p in
    eight-plus p.p0 p.p1 p.p2 (p.p3 ∷ p.p4 ∷ p.p5 ∷ p.p6 ∷ p.p7 ∷ []) a.a a.b a.c a.d a.e a.f a.g a.h
    c.full_add-ones1.ensures c.full_add-ones2.ensures c.full_add-ones3.ensures c.full_add-ones4.ensures
    c.full_add-twos1.ensures c.full_add-twos2.ensures c.full_add-fours.ensures
