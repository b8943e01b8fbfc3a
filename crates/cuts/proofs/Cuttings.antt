-- The structure of a cutting, run by run, to walk over it; and its sum depends on the scores of its own runs alone.
use mathlib.Core.Path.{◌≡◌, refl, ap}
use mathlib.Core.List.{List, [], ◌∷◌}
use Prim.Native.Nat.{ℕ, zero, suc, ◌+◌, ◌≤◌, ◌<◌, zero-le, suc-le-suc}
use native.Mathlib.Omega.{arith}
use lib.ListN.{length, get_or}
use Rattle.cuts.specs.Cuttings.{Cutting, total}

-- the ticks t to T - 1 with so many cuts: one run up to T - 1, or a run up to e and the ticks after e with a cut less
pub data Cuts (T : ℕ) : ℕ → ℕ → List ℕ → Type 0 where
  one : {t e : ℕ} → t ≤ e → suc e ≡ T → Cuts T 0 t (e ∷ [])
  more : {c t e : ℕ} {es : List ℕ} → t ≤ e → Cuts T c (suc e) es → Cuts T (suc c) t (e ∷ es)

-- c + 1 runs need more than c ticks
pub cuts_fit : {T c t : ℕ} {es : List ℕ} → Cuts T c t es → t + c < T
cuts_fit (one l q) = omega arith
cuts_fit (more l r) = omega (arith, cuts_fit r)

-- a cutting into c + 1 runs has c cuts, and the other way round
cuts-of : (T c t : ℕ) (es : List ℕ) → length es ≡ suc c → ((i : ℕ) → i < c → get_or es i 0 < get_or es (suc i) 0) → suc (get_or es c 0) ≡ T → t ≤ get_or es 0 0
    → Cuts T c t es
cuts-of T zero t [] n r q l = absurd (omega arith)
cuts-of T zero t (e ∷ []) n r q l = one l q
cuts-of T zero t (e ∷ (x ∷ es)) n r q l = absurd (omega arith)
cuts-of T (suc c) t [] n r q l = absurd (omega arith)
cuts-of T (suc c) t (e ∷ es) n r q l = more l (cuts-of T c (suc e) es (omega arith) (λ i h. r (suc i) (suc-le-suc h)) q (r 0 (suc-le-suc zero-le)))

pub to-cuts : {T c : ℕ} {es : List ℕ} → Cutting T (suc c) es → Cuts T c 0 es
to-cuts {T} {c} {es} k = cuts-of T c 0 es k.count (λ i h. k.rising i (suc-le-suc h)) (k.last c refl) zero-le

cuts-length : {T c t : ℕ} {es : List ℕ} → Cuts T c t es → length es ≡ suc c
cuts-length (one l q) = refl
cuts-length (more l r) = ap suc (cuts-length r)

cuts_first : {T c t : ℕ} {es : List ℕ} → Cuts T c t es → t ≤ get_or es 0 0
cuts_first (one l q) = l
cuts_first (more l r) = l

cuts-rising : {T c t : ℕ} {es : List ℕ} → Cuts T c t es → (i : ℕ) → i < c → get_or es i 0 < get_or es (suc i) 0
cuts-rising (one l q) i h = absurd (omega arith)
cuts-rising (more l r) zero h = cuts_first r
cuts-rising (more l r) (suc i) h = cuts-rising r i (omega arith)

cuts-last : {T c t : ℕ} {es : List ℕ} → Cuts T c t es → suc (get_or es c 0) ≡ T
cuts-last (one l q) = q
cuts-last (more l r) = cuts-last r

pub of-cuts : {T c : ℕ} {es : List ℕ} → Cuts T c 0 es → Cutting T (suc c) es
of-cuts {T} {c} {es} r = record {
  some = suc-le-suc zero-le;
  count = cuts-length r;
  rising = λ i h. cuts-rising r i (omega arith);
  last = λ i h. let e : i ≡ c = omega arith in rw e (cuts-last r);
}

-- two score functions that agree on all runs of T ticks have the same sums over a cutting
module _ (f g : ℕ → ℕ → ℕ) (T : ℕ) (same : (a b : ℕ) → a ≤ b → b < T → f a b ≡ g a b) where
  same_from : {c t : ℕ} {es : List ℕ} → Cuts T c t es → total f t es ≡ total g t es
  unfolding total
  same_from (one {t} {e} l q) = omega (arith, same t e l (omega arith))
  same_from (more {c} {t} {e} {es} l r) = omega (arith, same t e l (omega (arith, cuts_fit r)), same_from r)

  pub total-same : (h : ℕ) {es : List ℕ} → Cutting T h es → total f 0 es ≡ total g 0 es
  total-same zero k = absurd (omega arith)
  total-same (suc c) k = same_from (to-cuts k)
