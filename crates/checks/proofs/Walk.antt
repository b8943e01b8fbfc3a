-- The walk over what changes in the row of u, which is to become another: at each turn u is changed in the row of a badge that is unseen. If the row of u
-- had the changes that are seen, the rows would be a tick's at each turn; at the end it gets them all.
use mathlib.Core.Path.{◌≡◌, sym, ap, ◌∙◌}
use mathlib.Core.Logic.{by_cases}
use Prim.Native.Nat.{ℕ, ◌+◌, ◌%◌, ◌^◌, ◌≤◌, ◌<◌}
use native.Mathlib.Decide.{ℕ_discrete}
use native.Mathlib.Omega.{arith}
use lib.Bits.{xor_lt, xor_zero_r}
use Rattle.sets.specs.Sets.{bit, In, symmetric_difference, difference, only}
use Rattle.sets.specs.Tables.{piecewise}
use Rattle.sets.proofs.Bits.{bit-lt, bit-xor}
use Rattle.sets.proofs.Sets.{in-lt, in-only, of-only, of-difference, sub-lt}
use Rattle.sets.proofs.Tables.{piecewise-in, piecewise-out}
use Rattle.days.specs.Days.{IsTick}
use Rattle.days.proofs.Days.{tick-same}
use Rattle.checks.proofs.Toggled.{toggled-less, toggled-back}
use Rattle.checks.proofs.Pairs.{tick-bits, pair-toggled}

-- rows with another in the place of that of u
abbrev pub with_row : ℕ → ℕ → (ℕ → ℕ) → ℕ → ℕ
with_row u row rows = piecewise (only u) (λ w. row) rows

row-there : (u row : ℕ) (rows : ℕ → ℕ) → with_row u row rows u ≡ row
row-there u row rows = piecewise-in (only u) _ rows u (in-only u)

row_other : (u row : ℕ) (rows : ℕ → ℕ) (w : ℕ) → (w ≡ u → ⊥) → with_row u row rows w ≡ rows w
row_other u row rows w f = piecewise-out (only u) _ rows w (λ i. f (of-only u w i))

-- The row of u is to become `row`, and differs from it by the changes unseen once it has those that are seen.
pub record Walk (n u row : ℕ) (known : ℕ → ℕ) (unseen : ℕ) : Type 0 where
  pub tick : IsTick n (with_row u (symmetric_difference row unseen) known)
  pub below : unseen < 2 ^ n

-- at its start all changes are unseen
pub walk_none : {n u row : ℕ} {known : ℕ → ℕ} {unseen : ℕ} → IsTick n known → u < n → row < 2 ^ n → unseen ≡ symmetric_difference row (known u)
    → Walk n u row known unseen
unfolding symmetric_difference
walk_none {n} {u} {row} {known} {unseen} d l h e = record {
  tick = tick-same n known _ (λ w k. by_cases (ℕ_discrete w u)
      (λ f. rw f (sym (row-there u _ known ∙ rw e (toggled-back row (known u)))))
      (λ f. sym (row_other u _ known w f))) d;
  below = rw e (xor_lt n row (known u) h (d.within u l));
}

module _ {n u row : ℕ} {known : ℕ → ℕ} {unseen : ℕ} (w : Walk n u row known unseen) (l : u < n) where
  -- an unseen badge is below n
  pub walk-member : (v : ℕ) → In unseen v → v < n
  walk-member v i = in-lt n unseen v w.below i

  -- One that is at most u breaks every tick that agrees with the row at it, and with the row of it, if it is smaller, at u: the pair has no mirror there.
  pub walk-broken : (rows : ℕ → ℕ) (v : ℕ) → In unseen v → v ≤ u → bit row v ≡ bit (rows u) v → (v < u → bit (known v) u ≡ bit (rows v) u)
      → IsTick n rows → ⊥
  unfolding symmetric_difference
  walk-broken rows v i k e f d = by_cases (ℕ_discrete v u)
      (λ g. w.tick.irreflexive u l (there u ∙ rw g at changed ∙ omega (arith, own g)))
      (λ g. omega (arith, changed, there v, bit-lt row v, mirror (omega arith)))
    where
      there : (x : ℕ) → bit (with_row u (symmetric_difference row unseen) known u) x ≡ bit (symmetric_difference row unseen) x
      there x = ap (λ (s : ℕ). bit s x) (row-there u _ known)

      changed : bit (symmetric_difference row unseen) v ≡ (bit row v + 1) % 2
      changed = bit-xor v row unseen ∙ rw i

      own : v ≡ u → bit row u ≡ 0
      own g =
          let e : bit row u ≡ bit (rows u) u = rw g at e in
          by_cases (ℕ_discrete (bit row u) 1) (λ j. absurd (d.irreflexive u l (sym e ∙ j))) (λ h. omega (arith, bit-lt row u))

      mirror : v < u → bit (with_row u (symmetric_difference row unseen) known u) v ≡ bit row v
      mirror m =
          tick-bits w.tick u v l (omega arith)
          ∙ ap (λ (s : ℕ). bit s u) (row_other u _ known v (λ g. omega arith))
          ∙ f m ∙ tick-bits d v u (omega arith) l ∙ sym e

  -- one that is larger is seen: u is changed in its row
  pub walk_more : {next : ℕ → ℕ} (v : ℕ) → In unseen v → u < v → next v ≡ symmetric_difference (known v) (only u)
      → ((x : ℕ) → (x ≡ v → ⊥) → next x ≡ known x) → Walk n u row next (difference unseen (only v))
  walk_more {next} v i k e same = record {
    tick = pair-toggled u v l (walk-member v i) (λ f. omega arith)
        (row-there u _ next ∙ toggled-less row unseen v i ∙ ap (λ (s : ℕ). symmetric_difference s (only v)) (sym (row-there u _ known)))
        (row_other u _ next v (λ f. omega arith) ∙ e ∙ ap (λ (s : ℕ). symmetric_difference s (only u)) (sym (row_other u _ known v (λ f. omega arith))))
        (λ x f g. row_other u _ next x f ∙ same x g ∙ sym (row_other u _ known x f))
        w.tick;
    below = sub-lt n _ unseen (record { at = λ x j. (of-difference unseen (only v) x j).0 }) w.below;
  }

  -- where none is unseen, the row is put in its place
  pub walk-done : {next : ℕ → ℕ} → unseen ≡ 0 → next u ≡ row → ((x : ℕ) → (x ≡ u → ⊥) → next x ≡ known x) → IsTick n next
  unfolding symmetric_difference
  walk-done {next} z e same = tick-same n _ next (λ x k. by_cases (ℕ_discrete x u)
      (λ f. rw f (row-there u _ known ∙ rw z (xor_zero_r row) ∙ sym e))
      (λ f. row_other u _ known x f ∙ sym (same x f))) w.tick
