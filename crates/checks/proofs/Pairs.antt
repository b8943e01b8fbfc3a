-- The rows of a tick in which the contact of one pair is changed, in the rows of both its badges, are those of a tick.
use mathlib.Core.Path.{◌≡◌, sym, ap, ◌∙◌}
use mathlib.Core.Logic.{by_cases}
use Prim.Native.Nat.{ℕ, ◌-◌, ◌<◌}
use native.Mathlib.Decide.{ℕ_discrete}
use native.Mathlib.Omega.{arith}
use Rattle.sets.specs.Sets.{bit, symmetric_difference, only}
use Rattle.sets.proofs.Bits.{bit-lt}
use Rattle.days.specs.Days.{IsTick}
use Rattle.checks.proofs.Toggled.{toggled-there, toggled-other, toggled-lt}

-- the rows of a tick are symmetric bit by bit
pub tick-bits : {n : ℕ} {row : ℕ → ℕ} → IsTick n row → (u v : ℕ) → u < n → v < n → bit (row u) v ≡ bit (row v) u
tick-bits {row = row} d u v l k = by_cases (ℕ_discrete (bit (row u) v) 1)
    (λ i. i ∙ sym (d.symmetric u v l k i))
    (λ f. by_cases (ℕ_discrete (bit (row v) u) 1)
    (λ j. d.symmetric v u k l j ∙ sym j)
    (λ g. omega (arith, bit-lt (row u) v, bit-lt (row v) u)))

-- p with the pair of u and v changed is q
module _ {n : ℕ} {p q : ℕ → ℕ} (u v : ℕ) (a : u < n) (b : v < n) (apart : u ≡ v → ⊥)
    (first : q u ≡ symmetric_difference (p u) (only v)) (second : q v ≡ symmetric_difference (p v) (only u))
    (others : (w : ℕ) → (w ≡ u → ⊥) → (w ≡ v → ⊥) → q w ≡ p w) where
  same : (w x : ℕ) → (w ≡ u → x ≡ v → ⊥) → (w ≡ v → x ≡ u → ⊥) → bit (q w) x ≡ bit (p w) x
  same w x f g = by_cases (ℕ_discrete w u)
      (λ e. rw (e, first) (toggled-other (p u) v x (f e)))
      (λ d. by_cases (ℕ_discrete w v)
      (λ e. rw (e, second) (toggled-other (p v) u x (g e)))
      (λ c. ap (λ (s : ℕ). bit s x) (others w d c)))

  pub pair-toggled : IsTick n p → IsTick n q
  pair-toggled d = record {
    irreflexive = λ w l i. d.irreflexive w l (sym (same w w (λ e f. apart (sym e ∙ f)) (λ e f. apart (sym f ∙ e))) ∙ i);
    within = λ w l. by_cases (ℕ_discrete w u)
        (λ e. rw (e, first) (toggled-lt n (p u) v (d.within u a) b))
        (λ f. by_cases (ℕ_discrete w v)
        (λ e. rw (e, second) (toggled-lt n (p v) u (d.within v b) a))
        (λ g. rw (others w f g) (d.within w l)));
    symmetric = λ w x l k i. sym (both w x l k) ∙ i;
  }
    where
      there : bit (q u) v ≡ bit (q v) u
      there = rw (first, second) (toggled-there (p u) v ∙ ap (λ (x : ℕ). 1 - x) (tick-bits d u v a b) ∙ sym (toggled-there (p v) u))

      elsewhere : (w x : ℕ) → w < n → x < n → (w ≡ u → x ≡ v → ⊥) → (w ≡ v → x ≡ u → ⊥) → bit (q w) x ≡ bit (q x) w
      elsewhere w x l k f g = same w x f g ∙ tick-bits d w x l k ∙ sym (same x w (λ e h. g h e) (λ e h. f h e))

      both : (w x : ℕ) → w < n → x < n → bit (q w) x ≡ bit (q x) w
      both w x l k = by_cases (ℕ_discrete w u)
          (λ e. by_cases (ℕ_discrete x v)
          (λ h. rw (e, h) there)
          (λ f. elsewhere w x l k (λ g. f) (λ g h. apart (sym e ∙ g))))
          (λ f. by_cases (ℕ_discrete w v)
          (λ e. by_cases (ℕ_discrete x u)
          (λ h. rw (e, h) (sym there))
          (λ g. elsewhere w x l k (λ h. absurd (f h)) (λ h. g)))
          (λ g. elsewhere w x l k (λ h. absurd (f h)) (λ h. absurd (g h))))
