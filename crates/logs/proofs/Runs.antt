-- Laws of the unbroken runs of one pair, of which p t says whether it meets in tick t: where the run that leads up to a tick starts,
-- that the computed runs are the unbroken runs, and that every tick in which the pair meets is in one of them.
use mathlib.Core.Path.{◌≡◌, refl, sym, ap₂, ◌∙◌}
use mathlib.Core.Bool.{Bool, true, false}
use mathlib.Core.Logic.{◌⊎◌, inl, inr, ◌↔◌}
use Prim.Native.Nat.{ℕ, zero, suc, ◌+◌, ◌-◌, ◌≤◌, ◌<◌, zero-le}
use native.Mathlib.Nat.{le_refl, eq-or-lt_of_le, not-suc-le-zero}
use native.Mathlib.Omega.{arith}
use lib.Dec.{ltb}
use borrow.Author.Tests.{ltb-true, ltb-false, lt-ltb}
use Rattle.sets.specs.Bools.{◌and◌, isnt}
use Rattle.sets.proofs.Bools.{clash, and_in, and_left, and_right, isnt-in, isnt-of}
use Rattle.logs.specs.Tidy.{Run, run_start, run_ends}

-- the run that leads up to the next tick: it goes on if the pair meets in this tick, and starts anew if not
start-yes : (p : ℕ → Bool) (t : ℕ) → p t ≡ true → run_start p (suc t) ≡ run_start p t
unfolding run_start
start-yes p t e = rw (run_start, e)

start-not : (p : ℕ → Bool) (t : ℕ) → p t ≡ false → run_start p (suc t) ≡ suc t
unfolding run_start
start-not p t e = rw (run_start, e)

-- a run starts no later than the tick that it leads up to
start-le : (p : ℕ → Bool) (t : ℕ) → run_start p t ≤ t
unfolding run_start
start-le p zero = zero-le
start-le p (suc t) = go (p t) refl (start-le p t)
  where
    go : (b : Bool) → p t ≡ b → run_start p t ≤ t → run_start p (suc t) ≤ suc t
    go true e ih = omega (arith, start-yes p t e)
    go false e ih = omega (arith, start-not p t e)

-- the pair meets in every tick from the start on
start-run : (p : ℕ → Bool) (t s : ℕ) → run_start p t ≤ s → s < t → p s ≡ true
start-run p zero s l h = absurd (not-suc-le-zero h)
start-run p (suc t) s l h = go (p t) refl (eq-or-lt_of_le h) (start-run p t s)
  where
    go : (b : Bool) → p t ≡ b → (suc s ≡ suc t) ⊎ (suc s < suc t) → (run_start p t ≤ s → s < t → p s ≡ true) → p s ≡ true
    go true e (inl f) ih = let g : s ≡ t = omega arith in rw g e
    go true e (inr f) ih = ih (omega (arith, start-yes p t e)) (omega arith)
    go false e f ih = absurd (omega (arith, start-not p t e))

-- a tick from which on the pair meets in every tick is no earlier than the start
start_back : (p : ℕ → Bool) (t a : ℕ) → a ≤ t → ((s : ℕ) → a ≤ s → s < t → p s ≡ true) → run_start p t ≤ a
unfolding run_start
start_back p zero a l h = zero-le
start_back p (suc t) a l h = go (p t) refl (eq-or-lt_of_le l) (start_back p t a)
  where
    go : (b : Bool) → p t ≡ b → (a ≡ suc t) ⊎ (a < suc t) → (a ≤ t → ((s : ℕ) → a ≤ s → s < t → p s ≡ true) → run_start p t ≤ a) → run_start p (suc t) ≤ a
    go b e (inl f) ih = omega (arith, start-le p (suc t))
    go true e (inr f) ih = omega (arith, start-yes p t e, ih (omega arith) (λ s k g. h s k (omega arith)))
    go false e (inr f) ih = absurd (clash (h t (omega arith) (le_refl _)) e)

-- the pair does not meet in the tick before the start
start-before : (p : ℕ → Bool) (l t : ℕ) → suc t ≡ run_start p l → p t ≡ false
unfolding run_start
start-before p zero t e = absurd (omega arith)
start-before p (suc l) t e = go (p l) refl (start-before p l t)
  where
    go : (b : Bool) → p l ≡ b → (suc t ≡ run_start p l → p t ≡ false) → p t ≡ false
    go true f ih = ih (e ∙ start-yes p l f)
    go false f ih = let g : t ≡ l = omega (arith, start-not p l f) in rw g f

-- a tick is the last of a run exactly when the pair meets in it and not in the next one
ends-in : (T : ℕ) (p : ℕ → Bool) (t : ℕ) → p t ≡ true → (suc t < T → p (suc t) ≡ true → ⊥) → run_ends T p t ≡ true
unfolding run_ends
ends-in T p t e f = and_in _ _ e (isnt-in _ (λ g. f (ltb-true _ _ (and_left _ _ g)) (and_right _ _ g)))

pub ends-of : (T : ℕ) (p : ℕ → Bool) (t : ℕ) → run_ends T p t ≡ true → (p t ≡ true) × (suc t < T → p (suc t) ≡ true → ⊥)
unfolding run_ends
ends-of T p t e = (and_left _ _ e, λ k f. isnt-of _ (and_right _ _ e) (and_in _ _ (lt-ltb _ _ k) f))

-- a computed run is an unbroken run
pub run_of : (T : ℕ) (p : ℕ → Bool) (l : ℕ) → l < T → run_ends T p l ≡ true → Run T (λ t. p t ≡ true) (run_start p l) l
run_of T p l h e = record {
  rising = start-le p l;
  inside = h;
  each = λ t lo hi. go t lo (eq-or-lt_of_le hi);
  before = λ t f g. clash g (start-before p l t f);
  after = (ends-of T p l e).1;
}
  where
    go : (t : ℕ) → run_start p l ≤ t → (t ≡ l) ⊎ (t < l) → p t ≡ true
    go t lo (inl f) = rw f (ends-of T p l e).0
    go t lo (inr k) = start-run p l t lo k

-- an unbroken run is the computed one with its last tick
pub of-run : (T : ℕ) (p : ℕ → Bool) {f l : ℕ} → Run T (λ t. p t ≡ true) f l → (f ≡ run_start p l) × (run_ends T p l ≡ true)
of-run T p {f} {l} r = (first f r refl, ends-in T p l (r.each l r.rising (le_refl l)) r.after)
  where
    le : run_start p l ≤ f
    le = start_back p l f r.rising (λ s lo hi. r.each s lo (omega arith))

    first : (g : ℕ) → Run T (λ t. p t ≡ true) f l → f ≡ g → f ≡ run_start p l
    first zero x e = omega (arith, le)
    first (suc g) x e = go (eq-or-lt_of_le le)
      where
        go : (run_start p l ≡ f) ⊎ (run_start p l < f) → f ≡ run_start p l
        go (inl q) = sym q
        go (inr q) = absurd (x.before g (sym e) (start-run p l g (omega arith) (omega (arith, x.rising))))

-- the last tick of the run that a tick is in
record NextEnd (T : ℕ) (p : ℕ → Bool) (t : ℕ) : Type 0 where
  last : ℕ
  low : t ≤ last
  inside : last < T
  ends : run_ends T p last ≡ true
  each : (s : ℕ) → t ≤ s → s ≤ last → p s ≡ true

ends-here : (T : ℕ) (p : ℕ → Bool) (t : ℕ) → t < T → p t ≡ true → (suc t < T → p (suc t) ≡ true → ⊥) → NextEnd T p t
ends-here T p t l e f = record {
  last = t;
  low = le_refl t;
  inside = l;
  ends = ends-in T p t e f;
  each = λ s k m. let g : s ≡ t = omega arith in rw g e;
}

-- with d ticks to follow
next-end : (T : ℕ) (p : ℕ → Bool) (d t : ℕ) → suc (t + d) ≡ T → p t ≡ true → NextEnd T p t
next-end T p zero t h e = ends-here T p t (omega arith) e (λ k. absurd (omega arith))
next-end T p (suc d) t h e = go (p (suc t)) refl (next-end T p d (suc t) (omega arith))
  where
    more : (r : NextEnd T p (suc t)) {s : ℕ} → (t ≡ s) ⊎ (t < s) → s ≤ r.last → p s ≡ true
    more r (inl g) m = rw (← g) e
    more r (inr g) m = r.each _ g m

    go : (b : Bool) → p (suc t) ≡ b → (p (suc t) ≡ true → NextEnd T p (suc t)) → NextEnd T p t
    go false f ih = ends-here T p t (omega arith) e (λ k g. clash g f)
    go true f ih = let r = ih f in record { last = r.last; low = omega (arith, r.low); inside = r.inside; ends = r.ends; each = λ s k m. more r (eq-or-lt_of_le k) m }

-- every tick in which the pair meets is in a run
pub in-run : (T : ℕ) (p : ℕ → Bool) (t : ℕ) → t < T → p t ≡ true → (first last : ℕ) × Run T (λ t. p t ≡ true) first last × (first ≤ t) × (t ≤ last)
in-run T p t h e =
    let r = next-end T p (T - suc t) t (omega arith) e in
    (run_start p r.last, r.last, run_of T p r.last r.inside r.ends, start_back p r.last t r.low (λ s k m. r.each s k (omega arith)), r.low)

-- between two runs is a tick in which the pair does not meet
pub run-gap : (T : ℕ) (meet : ℕ → Type 0) {f l g m : ℕ} → Run T meet f l → Run T meet g m → l < m → suc l < g
run-gap T meet {f} {l} {g} {m} r q h = go (ltb (suc l) g) refl
  where
    go : (b : Bool) → ltb (suc l) g ≡ b → suc l < g
    go true e = ltb-true _ _ e
    go false e = absurd (r.after (omega (arith, q.inside)) (q.each (suc l) (ltb-false _ _ e) h))

-- the runs depend on the ticks before T alone
pub run-meet : (T : ℕ) (meet meet' : ℕ → Type 0) {f l : ℕ} → ((t : ℕ) → t < T → meet t ↔ meet' t) → Run T meet f l → Run T meet' f l
run-meet T meet meet' {f} {l} same r = record {
  rising = r.rising;
  inside = r.inside;
  each = λ t lo hi. (same t (omega (arith, r.inside))).0 (r.each t lo hi);
  before = λ t e m. r.before t e ((same t (omega (arith, r.rising, r.inside))).1 m);
  after = λ h m. r.after h ((same (suc l) h).1 m);
}

-- So do the first tick of the run that leads up to a tick, and whether a tick is the last of a run.
module _ (T : ℕ) (p q : ℕ → Bool) (same : (t : ℕ) → t < T → p t ≡ q t) where
  pub start-same : (t : ℕ) → t ≤ T → run_start p t ≡ run_start q t
  unfolding run_start
  start-same zero h = refl
  start-same (suc t) h = go (p t) refl (start-same t (omega arith))
    where
      go : (b : Bool) → p t ≡ b → run_start p t ≡ run_start q t → run_start p (suc t) ≡ run_start q (suc t)
      go true e ih = start-yes p t e ∙ ih ∙ sym (start-yes q t (sym (same t h) ∙ e))
      go false e ih = start-not p t e ∙ sym (start-not q t (sym (same t h) ∙ e))

  pub ends_same : (t : ℕ) → t < T → run_ends T p t ≡ run_ends T q t
  unfolding run_ends ◌and◌
  ends_same t h = ap₂ (λ a b. a and isnt b) (same t h) (go (ltb (suc t) T) refl)
    where
      go : (b : Bool) → ltb (suc t) T ≡ b → (ltb (suc t) T and p (suc t)) ≡ (ltb (suc t) T and q (suc t))
      go true e = rw (same (suc t) (ltb-true _ _ e))
      go false e = rw e
