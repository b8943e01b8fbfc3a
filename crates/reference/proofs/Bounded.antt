-- A number of the sequence, brought below a bound: 0 for the bound 0, and else a remainder by the bound.
use Rattle.std.proofs.Common.{◌≡◌, ℕ, zero, suc, ◌/◌, ◌%◌, ◌^◌, ◌<◌, refl, arith}
use Rattle.reference.specs.Random.{below}

pub below_zero : (bound x : ℕ) → bound ≡ 0 → below bound x ≡ 0
unfolding below
below_zero zero x e = refl
below_zero (suc b) x e = omega arith

pub below_bound : (bound x : ℕ) → 0 < bound → below bound x ≡ x / 2 ^ 16 % bound
unfolding below
below_bound zero x h = omega arith
below_bound (suc b) x h = refl
