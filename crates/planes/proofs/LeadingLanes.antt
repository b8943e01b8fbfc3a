-- Laws of the largest number in some lanes, found from the last plane down: the lanes that have it in the planes seen so far are narrowed by the next.
use mathlib.Core.Path.{◌≡◌, refl}
use mathlib.Core.List.{List, [], ◌∷◌}
use mathlib.Core.Logic.{inl, inr, by_cases}
use Prim.Native.Nat.{ℕ, ◌+◌, ◌*◌, ◌≤◌, ◌<◌}
use native.Mathlib.Decide.{ℕ_discrete}
use native.Mathlib.Omega.{arith}
use Rattle.sets.specs.Sets.{bit, In, intersection}
use Rattle.sets.proofs.Bits.{bit-lt}
use Rattle.sets.proofs.Sets.{not-in-none, some, in-intersection, of-intersection-left, of-intersection-right}
use Rattle.planes.specs.Lanes.{lane, LargestLane}
use Rattle.planes.specs.Leading.{Narrowed}

-- m is the largest number that lanes of s have in the planes ps, and t are the lanes that have it
pub record Leads (s : ℕ) (ps : List ℕ) (t m : ℕ) : Type 0 where
  pub each : (v : ℕ) → In s v → lane ps v ≤ m
  pub of : (v : ℕ) → In t v → In s v × (lane ps v ≡ m)
  pub has : (v : ℕ) → In s v → lane ps v ≡ m → In t v
  pub some : 0 < s → (t ≡ 0 → ⊥)
  pub none : s ≡ 0 → m ≡ 0

pub leads-start : (s : ℕ) → Leads s [] s 0
unfolding lane
leads-start s = record { each = λ v i. omega arith; of = λ v i. (i, refl); has = λ v i e. i; some = λ p e. omega arith; none = λ e. refl }

module _ {s p t m : ℕ} {ps : List ℕ} (h : Leads s ps t m) where
  -- no lane that leads has a 1 in the plane
  leads-zero : intersection t p ≡ 0 → Leads s (p ∷ ps) t (2 * m)
  unfolding lane
  leads-zero z = record {
    each = λ v i. by_cases (ℕ_discrete (lane ps v) m) (λ e. omega (arith, e, low v (h.has v i e))) (λ e. omega (arith, h.each v i, bit-lt p v, e));
    of = λ v i. let x = h.of v i in (x.0, omega (arith, x.1, low v i));
    has = λ v i e. h.has v i (omega (arith, bit-lt p v, e));
    some = h.some;
    none = λ e. omega (arith, h.none e);
  }
    where
      low : (v : ℕ) → In t v → bit p v ≡ 0
      low v i = by_cases (ℕ_discrete (bit p v) 1) (λ j. absurd (not-in-none v (rw z at (in-intersection t p v i j)))) (λ j. omega (arith, bit-lt p v, j))

  -- some have
  leads_one : (intersection t p ≡ 0 → ⊥) → Leads s (p ∷ ps) (intersection t p) (2 * m + 1)
  unfolding lane
  leads_one z = record {
    each = λ v i. omega (arith, h.each v i, bit-lt p v);
    of = λ v i. let x = h.of v (of-intersection-left t p v i) in (x.0, omega (arith, x.1, of-intersection-right t p v i));
    has = λ v i e. in-intersection t p v (h.has v i (omega (arith, bit-lt p v, h.each v i, e))) (omega (arith, bit-lt p v, h.each v i, e));
    some = λ q. z;
    none = λ e. let x = some (intersection t p) z in absurd (not-in-none x.0 (rw e at (h.of x.0 (of-intersection-left t p x.0 x.1)).0));
  }

  pub leads-more : {t' m' : ℕ} → Narrowed p t m t' m' → Leads s (p ∷ ps) t' m'
  leads-more n = elim n.step [
    | inl x ↦ rw (x.1, x.2) (leads-zero x.0)
    | inr x ↦ rw (x.1, x.2) (leads_one x.0)
  ]

pub leads-end : {s t m : ℕ} {ps : List ℕ} → Leads s ps t m → LargestLane s ps m
leads-end {s} {t} h = record {
  each = h.each;
  attained = λ p. let x = some t (h.some p) in (x.0, (h.of x.0 x.1).0, (h.of x.0 x.1).1);
  none = h.none;
}
