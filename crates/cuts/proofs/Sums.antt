-- The ends that are found are those of the first of the best cuttings.
use mathlib.Core.Path.{◌≡◌, refl, sym, ap, ◌∙◌}
use mathlib.Core.Bool.{Bool, true, false}
use mathlib.Core.List.Lexᴰ
use mathlib.Core.List.{List}
use mathlib.Core.Logic.{◌⊎◌, inl, inr}
use Prim.Native.Nat.{ℕ, zero, suc, ◌+◌, ◌≤◌, ◌<◌}
use native.Mathlib.Nat.{le_refl, eq-or-lt_of_le}
use native.Mathlib.Omega.{arith}
use lib.Dec.{ltb}
use borrow.Author.Tests.{ltb-true, ltb-false}
use Rattle.cuts.specs.Cuttings.{Cutting, total, ComesBefore, IsFirstBest}
use Rattle.cuts.specs.Sums.{first_greatest, sum_with, last_tick, later_ends, best_sum, end_after, ends_from, best_ends}
use Rattle.cuts.proofs.Cuttings.{Cuts, one, more, cuts_fit, to-cuts, of-cuts}
use Rattle.cuts.proofs.FirstCuttings.{first-only, first-same}

-- one number more: it is taken where its value is greater, and else the one found before is kept
pub greatest-take : (g : ℕ → ℕ) (t m : ℕ) → ltb (g (first_greatest g t m)) (g (t + suc m)) ≡ true → first_greatest g t (suc m) ≡ t + suc m
unfolding first_greatest
greatest-take g t m e = rw (first_greatest, e)

pub greatest-keep : (g : ℕ → ℕ) (t m : ℕ) → ltb (g (first_greatest g t m)) (g (t + suc m)) ≡ false → first_greatest g t (suc m) ≡ first_greatest g t m
unfolding first_greatest
greatest-keep g t m e = rw (first_greatest, e)

-- r is one of the numbers t to t + m, g is greatest at it, and less at those before it
pub record Greatest (g : ℕ → ℕ) (t m r : ℕ) : Type 0 where
  pub low : t ≤ r
  pub high : r ≤ t + m
  pub most : (e : ℕ) → t ≤ e → e ≤ t + m → g e ≤ g r
  pub first : (e : ℕ) → t ≤ e → e < r → g e < g r

pub is-greatest : (g : ℕ → ℕ) (t m : ℕ) → Greatest g t m (first_greatest g t m)
unfolding first_greatest
is-greatest g t zero = record { low = le_refl t; high = omega arith; most = λ e l h. let q : e ≡ t = omega arith in omega (arith, ap g q); first = λ e l h. absurd (omega arith) }
is-greatest g t (suc m) = go (ltb (g (first_greatest g t m)) (g (t + suc m))) refl (is-greatest g t m)
  where
    either : (e : ℕ) → e ≤ t + suc m → (e ≡ t + suc m) ⊎ (e ≤ t + m)
    either e h = elim (eq-or-lt_of_le h) [ inl q ↦ inl q | inr q ↦ inr (omega arith) ]

    go : (b : Bool) → ltb (g (first_greatest g t m)) (g (t + suc m)) ≡ b → Greatest g t m (first_greatest g t m) → Greatest g t (suc m) (first_greatest g t (suc m))
    go true x ih =
        let y = ltb-true (g (first_greatest g t m)) (g (t + suc m)) x in
        rw (greatest-take g t m x) (record {
          low = omega arith;
          high = le_refl (t + suc m);
          most = λ e l h. elim (either e h) [ inl q ↦ omega (arith, ap g q) | inr q ↦ omega (arith, ih.most e l q) ];
          first = λ e l h. omega (arith, ih.most e l (omega arith));
        })
    go false x ih =
        let y = ltb-false (g (first_greatest g t m)) (g (t + suc m)) x in
        rw (greatest-keep g t m x) (record {
          low = ih.low;
          high = omega (arith, ih.high);
          most = λ e l h. elim (either e h) [ inl q ↦ omega (arith, ap g q) | inr q ↦ ih.most e l q ];
          first = ih.first;
        })

-- two functions that agree on the numbers have the same first greatest
pub greatest-same : (g k : ℕ → ℕ) (t m : ℕ) → ((e : ℕ) → t ≤ e → e ≤ t + m → g e ≡ k e) → first_greatest g t m ≡ first_greatest k t m
unfolding first_greatest
greatest-same g k t zero h = refl
greatest-same g k t (suc m) h = go (greatest-same g k t m (λ e l r. h e l (omega arith))) (ltb (g (first_greatest g t m)) (g (t + suc m))) refl
  where
    turn : first_greatest g t m ≡ first_greatest k t m → (b : Bool) → ltb (g (first_greatest g t m)) (g (t + suc m)) ≡ b
        → ltb (k (first_greatest k t m)) (k (t + suc m)) ≡ b → first_greatest g t (suc m) ≡ first_greatest k t (suc m)
    turn ih true x y = greatest-take g t m x ∙ sym (greatest-take k t m y)
    turn ih false x y = greatest-keep g t m x ∙ ih ∙ sym (greatest-keep k t m y)

    go : first_greatest g t m ≡ first_greatest k t m → (b : Bool) → ltb (g (first_greatest g t m)) (g (t + suc m)) ≡ b → first_greatest g t (suc m) ≡ first_greatest k t (suc m)
    go ih b x =
        let p = is-greatest g t m in
        let u : g (first_greatest g t m) ≡ k (first_greatest k t m) = h (first_greatest g t m) p.low (omega (arith, p.high)) ∙ ap k ih in
        let v : g (t + suc m) ≡ k (t + suc m) = h (t + suc m) (omega arith) (le_refl _) in
        turn ih b x (rw (u, v) at x)

module _ (score : ℕ → ℕ → ℕ) (T : ℕ) where
  -- the greatest sum is attained at the end that is found, and at no end exceeded
  pub best-sum-suc : (c t : ℕ) → best_sum score T (suc c) t ≡ sum_with score (best_sum score T c) t (end_after score T c t)
  unfolding best_sum end_after
  best-sum-suc c t = refl

  pub end-greatest : (c t : ℕ) → Greatest (sum_with score (best_sum score T c) t) t (later_ends T c t) (end_after score T c t)
  unfolding end_after
  end-greatest c t = is-greatest (sum_with score (best_sum score T c) t) t (later_ends T c t)

  -- the ends found from t on cut the ticks, their sum is the greatest sum, and no other cuts exceed it
  ends-cuts : (c t : ℕ) → t + c < T → Cuts T c t (ends_from score T c t)
  unfolding ends_from
  ends-cuts zero t h = one {t = t} {e = last_tick T} (omega arith) (omega arith)
  ends-cuts (suc c) t h = let p = end-greatest c t in more p.low (ends-cuts c (suc (end_after score T c t)) (omega arith))

  ends-total : (c t : ℕ) → total score t (ends_from score T c t) ≡ best_sum score T c t
  unfolding ends_from total best_sum sum_with
  ends-total zero t = omega arith
  ends-total (suc c) t = go (ends-total c (suc (end_after score T c t)))
    where
      go : total score (suc (end_after score T c t)) (ends_from score T c (suc (end_after score T c t))) ≡ best_sum score T c (suc (end_after score T c t))
          → total score t (ends_from score T (suc c) t) ≡ best_sum score T (suc c) t
      go ih = rw (best-sum-suc c t) (ap (λ (x : ℕ). score t (end_after score T c t) + x) ih)

  cuts-best : {c t : ℕ} {es : List ℕ} → Cuts T c t es → total score t es ≤ best_sum score T c t
  unfolding total best_sum sum_with
  cuts-best (one {t} {e} l q) = let p : e ≡ last_tick T = omega arith in omega (arith, ap (score t) p)
  cuts-best (more {c} {t} {e} {es} l r) =
      omega (arith, cuts-best r, cuts_fit r, best-sum-suc c t, (end-greatest c t).most e l (omega (arith, cuts_fit r)))

  -- no cuts that attain the greatest sum come before them: an end before the one found has a smaller sum, and after the same end the rest attains the
  -- greatest sum of the rest
  cuts_first : {c t : ℕ} {es : List ℕ} → Cuts T c t es → total score t es ≡ best_sum score T c t → ComesBefore es (ends_from score T c t) → ⊥
  unfolding ends_from total best_sum sum_with
  cuts_first (one {t} {e} l q) s b = elim (Lexᴰ.cases_cons-cons b) [ inl m ↦ omega arith | inr m ↦ Lexᴰ.not-nil m.1 ]
  cuts_first (more {c} {t} {e} {es} l r) s b =
      elim (Lexᴰ.cases_cons-cons b) [
        | inl m ↦ omega (arith, s, best-sum-suc c t, cuts-best r, (end-greatest c t).first e l m)
        | inr m ↦ cuts_first r (omega (arith, s, best-sum-suc c t, ap (λ (x : ℕ). sum_with score (best_sum score T c) t x) m.0)) (rw (← m.0) at m.1)
      ]

-- The ends that are found are those of the first of the best cuttings, whatever the score.
pub best-ends : (score : ℕ → ℕ → ℕ) (T h : ℕ) → 1 ≤ h → h ≤ T → IsFirstBest score T h (best_ends score T h)
unfolding best_ends
best-ends score T zero l w = absurd (omega arith)
best-ends score T (suc c) l w = record {
  best = record { cutting = cutting; greatest = greatest };
  first = λ es b. cuts_first score T (to-cuts b.cutting) (omega (arith, b.greatest (best_ends score T (suc c)) cutting, greatest es b.cutting, ends-total score T c 0));
}
  where
    cutting : Cutting T (suc c) (best_ends score T (suc c))
    cutting = of-cuts (ends-cuts score T c 0 (omega arith))

    greatest : (es : List ℕ) → Cutting T (suc c) es → total score 0 es ≤ total score 0 (best_ends score T (suc c))
    greatest es k = rw (ends-total score T c 0) (cuts-best score T (to-cuts k))

-- Two score functions that agree on all runs of T ticks have the same ends found, since there is just one first of the best cuttings.
pub ends_same : (f g : ℕ → ℕ → ℕ) (T h : ℕ) → ((a b : ℕ) → a ≤ b → b < T → f a b ≡ g a b) → 1 ≤ h → h ≤ T → best_ends f T h ≡ best_ends g T h
ends_same f g T h same l m = first-only (first-same f g same (best-ends f T h l m)) (best-ends g T h l m)
