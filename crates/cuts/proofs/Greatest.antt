-- Laws of the greatest of a function's values over a range of numbers, for the loops that find it without its place, going up or down.
use mathlib.Core.Path.{◌≡◌, refl, sym, ap}
use mathlib.Core.Bool.{Bool, true, false}
use Prim.Native.Nat.{ℕ, suc, ◌+◌, ◌-◌, ◌≤◌, ◌<◌, max, zero-le}
use native.Mathlib.Omega.{arith}
use lib.Dec.{ltb}
use borrow.Author.Tests.{ltb-true, ltb-false}
use Rattle.cuts.specs.Sums.{first_greatest}
use Rattle.cuts.specs.Steps.{NoneAbove, GreatestOf}
use Rattle.cuts.proofs.Sums.{is-greatest}

-- of no value, of one value, and of two ranges, one after the other
pub greatest-none : {g : ℕ → ℕ} {t : ℕ} → GreatestOf g t t 0
greatest-none = record { most = record { at = λ e l m. absurd (omega arith) }; least = λ b n. zero-le }

pub greatest-one : {g : ℕ → ℕ} {t x : ℕ} → x ≡ g t → GreatestOf g t (t + 1) x
greatest-one {g} {t} q = record {
  most = record { at = λ e l m. let p : e ≡ t = omega arith in omega (arith, ap g p) };
  least = λ b n. omega (arith, n.at t (omega arith) (omega arith));
}

pub greatest-both : {g : ℕ → ℕ} {t m stop x y z : ℕ} → GreatestOf g t m x → GreatestOf g m stop y → t ≤ m → m ≤ stop → z ≡ max x y → GreatestOf g t stop z
greatest-both {g} {t} {m} {stop} {z = z} u v l n q = record {
  most = record { at = λ e i j. go e i j (ltb e m) refl };
  least = λ b k.
      let f = u.least b (record { at = λ e i j. k.at e i (omega arith) }) in
      let s = v.least b (record { at = λ e i j. k.at e (omega arith) j }) in
      omega arith;
}
  where
    go : (e : ℕ) → t ≤ e → e < stop → (b : Bool) → ltb e m ≡ b → g e ≤ z
    go e i j true w = omega (arith, u.most.at e i (ltb-true e m w))
    go e i j false w = omega (arith, v.most.at e (ltb-false e m w) j)

-- of one value more, and of all
pub greatest-next : {g : ℕ → ℕ} {t e x y z : ℕ} → GreatestOf g t e x → t ≤ e → y ≡ g e → z ≡ max x y → GreatestOf g t (e + 1) z
greatest-next p l v q = greatest-both p (greatest-one v) l (omega arith) q

pub greatest-all : {g : ℕ → ℕ} {t e stop x : ℕ} → GreatestOf g t e x → e ≡ stop → GreatestOf g t stop x
greatest-all p q = rw q at p

-- none above, and so the greatest, for functions that agree on the range
none-above-same : {g k : ℕ → ℕ} {t stop b : ℕ} → ((e : ℕ) → t ≤ e → e < stop → g e ≡ k e) → NoneAbove g t stop b → NoneAbove k t stop b
none-above-same h n = record { at = λ e l m. omega (arith, h e l m, n.at e l m) }

pub greatest-of-same : {g k : ℕ → ℕ} {t stop s : ℕ} → ((e : ℕ) → t ≤ e → e < stop → g e ≡ k e) → GreatestOf g t stop s → GreatestOf k t stop s
greatest-of-same h p = record { most = none-above-same h p.most; least = λ b n. p.least b (none-above-same (λ e l m. sym (h e l m)) n) }

-- it is the value at the first number at which the function is greatest
pub at-first-greatest : {g : ℕ → ℕ} {t stop s : ℕ} → GreatestOf g t stop s → t < stop → s ≡ g (first_greatest g t (stop - suc t))
at-first-greatest {g} {t} {stop} p l =
    let r = is-greatest g t (stop - suc t) in
    let a = p.most.at (first_greatest g t (stop - suc t)) r.low (omega (arith, r.high)) in
    let b = p.least (g (first_greatest g t (stop - suc t))) (record { at = λ e i j. r.most e i (omega arith) }) in
    omega arith
