-- The badges that may pass on in a tick are the index and those at which a chain arrives in a tick before.
use mathlib.Core.Path.{◌≡◌, subst}
use mathlib.Core.List.{List}
use mathlib.Core.Logic.{◌⊎◌, inl, inr, by_cases}
use Prim.Native.Nat.{ℕ, zero, suc, ◌+◌, ◌-◌, ◌≤◌, ◌<◌}
use native.Mathlib.Decide.{dec_le}
use native.Mathlib.Omega.{arith}
use Rattle.sets.specs.Sets.{In}
use Rattle.sets.proofs.Sets.{in-only, of-only, in-lt}
use Rattle.days.specs.Days.{neighbours}
use Rattle.chains.specs.Chains.{Contact, Chain, first, next}
use Rattle.chains.specs.Judging.{StartOfDay}
use Rattle.chains.specs.Sweep.{passing}
use Rattle.chains.proofs.Chains.{chain-from}
use Rattle.chains.proofs.Spreading.{Touched, spread-keeps, spread-in, spread-of}

-- who passes on in a tick does so in every later one, the index from the first tick on
module _ (n : ℕ) (rows : ℕ → ℕ → ℕ) (index s : ℕ) where
  pub index-passes : (k : ℕ) → In (passing n rows index s k) index
  unfolding passing
  index-passes zero = in-only index
  index-passes (suc k) = spread-keeps n _ _ index (index-passes k)

  pub passing-later : (j k u : ℕ) → j ≤ k → In (passing n rows index s j) u → In (passing n rows index s k) u
  unfolding passing
  passing-later j zero u h i = let e : j ≡ 0 = omega arith in subst (λ (x : ℕ). In (passing n rows index s x) u) e i
  passing-later j (suc k) u h i =
      by_cases (dec_le j k)
      (λ l. spread-keeps n _ _ u (passing-later j k u l i))
      (λ l. let e : j ≡ suc k = omega arith in subst (λ (x : ℕ). In (passing n rows index s x) u) e i)

module _ (n T : ℕ) (ws : List ℕ) (index s : ℕ) (d : StartOfDay n T ws index s) where
  -- contacts are mutual
  pub swapped : {t u v : ℕ} → Contact n T ws t u v → Contact n T ws t v u
  swapped {t} {u} {v} c = record {
    tick = c.tick;
    one = c.other;
    other = c.one;
    meet = (d.lent.day.tick t c.tick).symmetric u v c.one c.other c.meet;
  }

  -- a badge in contact with one that passes on in tick s + k passes on in the next
  passed_on : (k u w : ℕ) → Contact n T ws (s + k) w u → In (passing n (neighbours n ws) index s k) w → In (passing n (neighbours n ws) index s (suc k)) u
  unfolding passing
  passed_on k u w c i = spread-in n _ _ u (record { below = c.other; by = w; row_has = (swapped c).meet; member = i })

  -- in tick t, which is s or later
  passed-in : (t u w k : ℕ) → s ≤ t → t < s + k → Contact n T ws t w u → In (passing n (neighbours n ws) index s (t - s)) w → In (passing n (neighbours n ws) index s k) u
  passed-in t u w k h l c i =
      let e : t ≡ s + (t - s) = omega arith in
      passing-later n _ index s (suc (t - s)) k u (omega arith) (passed_on (t - s) u w (subst (λ (x : ℕ). Contact n T ws x w u) e c) i)

  -- a badge at which a chain arrives passes on in every later tick
  pub chain-passes : {u t : ℕ} → Chain (Contact n T ws) index s u t → (k : ℕ) → t < s + k → In (passing n (neighbours n ws) index s k) u
  chain-passes {u} {t} (first h c) k l = passed-in t u index k (omega arith) l c (index-passes n _ index s (t - s))
  chain-passes {u} {t} (next {u = w} b h c) k l =
      let g = chain-from b in passed-in t u w k (omega arith) l c (chain-passes b (t - s) (omega arith))

  -- a chain that arrives at u in a tick before t
  pub record Before (u t : ℕ) : Type 0 where
    pub tick : ℕ
    pub chain : Chain (Contact n T ws) index s u tick
    pub sooner : tick < t

  -- who passes on is the index, or a chain arrived at it in a tick before
  pub passes-by : (k u : ℕ) → s + k ≤ T → In (passing n (neighbours n ws) index s k) u → (u ≡ index) ⊎ Before u (s + k)
  unfolding passing
  passes-by zero u h i = inl (of-only index u i)
  passes-by (suc k) u h i = go (λ v j. passes-by k v (omega arith) j) (spread-of n _ _ u i)
    where
      later : (u ≡ index) ⊎ Before u (s + k) → (u ≡ index) ⊎ Before u (s + suc k)
      later (inl e) = inl e
      later (inr b) = inr (record { tick = b.tick; chain = b.chain; sooner = let l = b.sooner in omega arith })

      from : (w : ℕ) → Contact n T ws (s + k) w u → (w ≡ index) ⊎ Before w (s + k) → Before u (s + suc k)
      from w c (inl e) = record { tick = s + k; chain = first {t = s + k} (omega arith) (subst (λ (x : ℕ). Contact n T ws (s + k) x u) e c); sooner = omega arith }
      from w c (inr b) = record { tick = s + k; chain = next {t = s + k} b.chain (let l = b.sooner in omega arith) c; sooner = omega arith }

      go : ((v : ℕ) → In (passing n (neighbours n ws) index s k) v → (v ≡ index) ⊎ Before v (s + k))
          → In (passing n (neighbours n ws) index s k) u ⊎ Touched n (neighbours n ws (s + k)) (passing n (neighbours n ws) index s k) u → (u ≡ index) ⊎ Before u (s + suc k)
      go by (inl j) = later (by u j)
      go by (inr j) = inr (from j.by (swapped touching) (by j.by j.member))
        where
          touching : Contact n T ws (s + k) u j.by
          touching = record {
            tick = omega arith;
            one = j.below;
            other = in-lt n _ j.by ((d.lent.day.tick (s + k) (omega arith)).within u j.below) j.row_has;
            meet = j.row_has;
          }
