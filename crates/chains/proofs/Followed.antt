-- Where each reached badge has its source, the sources followed back are a chain to the index.
use mathlib.Core.Path.{◌≡◌, refl, subst}
use mathlib.Core.List.{List}
use mathlib.Core.Logic.{by_cases}
use Prim.Native.Nat.{ℕ, zero, suc, ◌≤◌, ◌<◌}
use native.Mathlib.Decide.{ℕ_discrete}
use native.Mathlib.Omega.{arith}
use Rattle.chains.specs.Chains.{first, next}
use Rattle.chains.specs.Traces.{never, tick_in, source_in, Other, PassesOn, as_index, as_reached, IsSource, FollowedBack}

module _ {Meet : ℕ → ℕ → ℕ → Type 0} {n index s : ℕ} {l : List ℕ} (below : (t u v : ℕ) → Meet t u v → u < n) (start : tick_in l index ≡ s)
    (sources : (u : ℕ) → Other n index u → tick_in l u < never → IsSource Meet index s (tick_in l) (tick_in l u) u (source_in n l u)) where
  -- a step back leads to an earlier tick, so there are no more steps than the tick's number and one
  followed-in : (k u : ℕ) → tick_in l u < k → Other n index u → tick_in l u < never → FollowedBack Meet n index s l u
  followed-in zero u h o r = absurd (omega arith)
  followed-in (suc k) u h o r = by_cases (ℕ_discrete (source_in n l u) index) (λ e. at-index e source.passes) (λ ne. at_other (followed-in k (source_in n l u)) ne source.passes)
    where
      source : IsSource Meet index s (tick_in l) (tick_in l u) u (source_in n l u)
      source = sources u o r

      from-index : source_in n l u ≡ index → s ≤ tick_in l u → FollowedBack Meet n index s l u
      from-index e m = record { chain = first m (subst (λ (x : ℕ). Meet (tick_in l u) x u) e source.meets); by_sources = (refl, e) }

      at-index : source_in n l u ≡ index → PassesOn index s (tick_in l) (tick_in l u) (source_in n l u) → FollowedBack Meet n index s l u
      at-index e (as_index f m) = from-index e m
      at-index e (as_reached m) = from-index e (let z : tick_in l index < tick_in l u = subst (λ (x : ℕ). tick_in l x < tick_in l u) e m in omega arith)

      at_other : (tick_in l (source_in n l u) < k → Other n index (source_in n l u) → tick_in l (source_in n l u) < never → FollowedBack Meet n index s l (source_in n l u))
          → (source_in n l u ≡ index → ⊥) → PassesOn index s (tick_in l) (tick_in l u) (source_in n l u) → FollowedBack Meet n index s l u
      at_other earlier ne (as_index f m) = absurd (ne f)
      at_other earlier ne (as_reached m) =
          let b = earlier (omega arith) (record { below = below _ _ _ source.meets; apart = ne }) (omega arith) in
          record { chain = next b.chain m source.meets; by_sources = (b.by_sources, refl, refl) }

  pub followed : (u : ℕ) → Other n index u → tick_in l u < never → FollowedBack Meet n index s l u
  followed u o r = followed-in never u r o r
