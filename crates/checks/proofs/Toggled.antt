-- Laws of a set in which one badge changes: it comes in where it is not there, and goes where it is.
use mathlib.Core.Path.{◌≡◌, sym, ◌∙◌}
use mathlib.Core.Logic.{by_cases}
use Prim.Native.Nat.{ℕ, ◌-◌, ◌^◌, ◌<◌}
use native.Mathlib.Decide.{ℕ_discrete}
use native.Mathlib.Omega.{arith}
use lib.Bits.{xor_lt, xor_comm}
use Rattle.sets.specs.Sets.{bit, In, symmetric_difference, difference, only}
use Rattle.sets.proofs.Bits.{bit-lt, bit-xor, bit-sub}
use Rattle.sets.proofs.Sets.{in-only, of-only, lt-of-members, ext, symmetric-twice}

-- the set of v alone has no other
only-other : (v w : ℕ) → (w ≡ v → ⊥) → bit (only v) w ≡ 0
only-other v w f = by_cases (ℕ_discrete (bit (only v) w) 1) (λ i. absurd (f (of-only v w i))) (λ g. omega (arith, bit-lt (only v) w))

-- which badges it has then: v, and any other
pub toggled-there : (s v : ℕ) → bit (symmetric_difference s (only v)) v ≡ 1 - bit s v
unfolding symmetric_difference
toggled-there s v = omega (arith, bit-xor v s (only v), in-only v, bit-lt s v)

pub toggled-other : (s v w : ℕ) → (w ≡ v → ⊥) → bit (symmetric_difference s (only v)) w ≡ bit s w
unfolding symmetric_difference
toggled-other s v w f = omega (arith, bit-xor w s (only v), only-other v w f, bit-lt s w)

-- a set of badges below n stays one, where v is below n
pub toggled-lt : (n s v : ℕ) → s < 2 ^ n → v < n → symmetric_difference s (only v) < 2 ^ n
unfolding symmetric_difference
toggled-lt n s v h l = xor_lt n s (only v) h (lt-of-members n (only v) (λ w i. omega (arith, of-only v w i)))

-- a difference from which one of its badges is taken away is one in which that badge changes
pub toggled-less : (s t v : ℕ) → In t v → symmetric_difference s (difference t (only v)) ≡ symmetric_difference (symmetric_difference s t) (only v)
unfolding symmetric_difference difference
toggled-less s t v i = ext _ _ (λ w j. sym (bits w) ∙ j) (λ w j. bits w ∙ j)
  where
    bits : (w : ℕ) → bit (symmetric_difference s (difference t (only v))) w ≡ bit (symmetric_difference (symmetric_difference s t) (only v)) w
    bits w = by_cases (ℕ_discrete w v)
        (λ e. rw e (omega (arith, bit-xor v s (difference t (only v)), bit-sub v t (only v), bit-xor v (symmetric_difference s t) (only v), bit-xor v s t, in-only v, bit-lt s v)))
        (λ f. omega (arith, bit-xor w s (difference t (only v)), bit-sub w t (only v), bit-xor w (symmetric_difference s t) (only v), bit-xor w s t, only-other v w f, bit-lt s w, bit-lt t w))

-- the difference from one set of their difference is the other
pub toggled-back : (s t : ℕ) → symmetric_difference s (symmetric_difference s t) ≡ t
unfolding symmetric_difference
toggled-back s t = xor_comm s _ ∙ rw (xor_comm s t) (symmetric-twice t s)
