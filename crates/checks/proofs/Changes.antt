-- Laws of the union over a range of rows.
use mathlib.Core.Path.{◌≡◌}
use mathlib.Core.Logic.{◌⊎◌, inl, inr, by_cases}
use Prim.Native.Nat.{ℕ, ◌+◌, ◌≤◌, ◌<◌}
use native.Mathlib.Nat.{le_refl}
use native.Mathlib.Decide.{dec_lt}
use native.Mathlib.Omega.{arith}
use Rattle.sets.specs.Sets.{In, union}
use Rattle.sets.proofs.Sets.{not-in-none, in-union-left, in-union-right, of-union}
use Rattle.checks.specs.Changes.{UnionOver}

-- the union over no row, over one, and over two ranges of which the second begins where the first ends
pub union-none : (row : ℕ → ℕ) (u : ℕ) → UnionOver row u u 0
union-none row u = record { has = λ w v l k i. absurd (omega arith); of = λ v i. absurd (not-in-none v i) }

pub union-one : (row : ℕ → ℕ) (u : ℕ) {s : ℕ} → s ≡ row u → UnionOver row u (u + 1) s
union-one row u e = record {
  has = λ w v l k i. let f : w ≡ u = omega arith in rw e (rw f at i);
  of = λ v i. (u, le_refl u, omega arith, rw e at i);
}

pub union-join : {row : ℕ → ℕ} {a b c d e s t r : ℕ} → UnionOver row a b s → UnionOver row c d t → r ≡ union s t
    → a ≤ b → b ≡ c → c ≤ d → d ≡ e → UnionOver row a e r
union-join {row} {a} {b} {c} {d} {e} {s} {t} {r} h g f ab bc cd de = record {
  has = λ w v l k i. rw f (by_cases (dec_lt w b)
      (λ m. in-union-left s t v (h.has w v l m i))
      (λ m. in-union-right s t v (g.has w v (omega arith) (omega arith) i)));
  of = λ v i. go v (of-union s t v (rw f at i));
}
  where
    go : (v : ℕ) → In s v ⊎ In t v → (u : ℕ) × (a ≤ u) × (u < e) × In (row u) v
    go v (inl i) = let x = h.of v i in (x.0, x.1, omega (arith, x.2), x.3)
    go v (inr i) = let x = g.of v i in (x.0, omega (arith, x.1), omega (arith, x.2), x.3)

-- the same range, its end written in another way
pub union-to : {row : ℕ → ℕ} {a b s : ℕ} (c : ℕ) → b ≡ c → UnionOver row a b s → UnionOver row a c s
union-to c e h = rw (← e) h
