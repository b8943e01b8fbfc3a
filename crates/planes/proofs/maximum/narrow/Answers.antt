-- `maximum::narrow` meets its contract: the two cases of its test.
use mathlib.Core.Path.{refl}
use mathlib.Core.Logic.{inl, inr}
use native.Mathlib.Omega.{arith}
use Rattle.sets.specs.Sets.{intersection}
use Rattle.planes.proofs.maximum.narrow.Goals as goal

pub returns-then-ones-eq0 : goal.returns-then-ones-eq0
unfolding intersection
returns-then-ones-eq0 c = record { step = inl (c.if-ones-eq0.true, refl, refl); small = omega arith }

pub returns : goal.returns
unfolding intersection
returns c = record { step = inr (c.if-ones-eq0.false, refl, refl); small = omega arith }
