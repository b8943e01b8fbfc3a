-- There is just one first of the best cuttings, and it depends on the scores of a cutting's runs alone.
use mathlib.Core.Path.{◌≡◌, refl, sym, ap₂}
use mathlib.Core.List.Lexᴰ
use mathlib.Core.List.{List, [], ◌∷◌}
use mathlib.Core.Logic.{by_cases}
use Prim.Native.Nat.{ℕ, ◌≤◌, ◌<◌}
use native.Mathlib.Decide.{dec_lt}
use native.Mathlib.Omega.{arith}
use Rattle.cuts.specs.Cuttings.{Cutting, total, IsBest, ComesBefore, IsFirstBest}
use Rattle.cuts.proofs.Cuttings.{total-same}

-- two lists of which neither comes before the other are the same
pub neither-before : (xs ys : List ℕ) → (ComesBefore xs ys → ⊥) → (ComesBefore ys xs → ⊥) → xs ≡ ys
neither-before [] [] f g = refl
neither-before [] (y ∷ ys) f g = absurd (f Lexᴰ.nil)
neither-before (x ∷ xs) [] f g = absurd (g Lexᴰ.nil)
neither-before (x ∷ xs) (y ∷ ys) f g =
    let e : x ≡ y = by_cases (dec_lt x y) (λ l. absurd (f (Lexᴰ.rel l))) (λ l. by_cases (dec_lt y x) (λ m. absurd (g (Lexᴰ.rel m))) (λ m. omega arith)) in
    ap₂ (λ (z : ℕ) (zs : List ℕ). z ∷ zs) e (neither-before xs ys (λ b. f (Lexᴰ.cons e b)) (λ b. g (Lexᴰ.cons (sym e) b)))

-- There is just one.
pub first-only : {score : ℕ → ℕ → ℕ} {T h : ℕ} {xs ys : List ℕ} → IsFirstBest score T h xs → IsFirstBest score T h ys → xs ≡ ys
first-only {xs = xs} {ys = ys} x y = neither-before xs ys (y.first xs x.best) (x.first ys y.best)

-- a cutting with the sum of a best one is a best one
pub best-of-sum : {score : ℕ → ℕ → ℕ} {T h : ℕ} {es best : List ℕ} → IsBest score T h best → Cutting T h es → total score 0 es ≡ total score 0 best → IsBest score T h es
best-of-sum b c e = record { cutting = c; greatest = λ xs k. omega (arith, b.greatest xs k) }

-- Two score functions that agree on all runs of T ticks have the same best cuttings, and so the same first of them.
best-same : (f g : ℕ → ℕ → ℕ) {T h : ℕ} {es : List ℕ} → ((a b : ℕ) → a ≤ b → b < T → f a b ≡ g a b) → IsBest f T h es → IsBest g T h es
best-same f g {T} {h} {es} same b =
    let t : (xs : List ℕ) → Cutting T h xs → total f 0 xs ≡ total g 0 xs = λ xs c. total-same f g T same h c in
    record { cutting = b.cutting; greatest = λ xs c. omega (arith, b.greatest xs c, t xs c, t es b.cutting) }

pub first-same : (f g : ℕ → ℕ → ℕ) {T h : ℕ} {es : List ℕ} → ((a b : ℕ) → a ≤ b → b < T → f a b ≡ g a b) → IsFirstBest f T h es → IsFirstBest g T h es
first-same f g same x = record {
  best = best-same f g same x.best;
  first = λ xs b. x.first xs (best-same g f (λ a c l m. sym (same a c l m)) b);
}
