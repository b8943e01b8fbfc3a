-- The tick and the source of each badge after some ticks of the sweep: those of the tick that reached it, or 255.
use mathlib.Core.Path.{◌≡◌, refl, ◌∙◌}
use mathlib.Core.Bool.{Bool, true, false}
use Prim.Native.Nat.{ℕ, zero, suc, ◌+◌, ◌<◌}
use native.Mathlib.Omega.{arith}
use Rattle.sets.specs.Sets.{In, has}
use Rattle.sets.proofs.Sets.{in-test, out-test, in-only, of-only, in-difference, of-difference}
use Rattle.sets.proofs.Tables.{piecewise-in, piecewise-out}
use Rattle.chains.specs.Traces.{never, no_source}
use Rattle.chains.specs.Sweep.{source_from, passing, newly, tick_after, source_after}
use Rattle.chains.proofs.Reachable.{index-passes}

module _ (n : ℕ) (rows : ℕ → ℕ → ℕ) (index s : ℕ) where
  -- what the sweep over k ticks says of badge u: it is reached in tick s + j, or it is not reached
  pub data Arrival (k u : ℕ) : Type 0 where
    in-tick : (j : ℕ) → j < k → In (newly n rows index s j) u → tick_after n rows index s k u ≡ s + j
        → source_after n rows index s k u ≡ source_from (rows (s + j)) (passing n rows index s j) u → Arrival k u
    in-none : (In (passing n rows index s k) u → ⊥) → tick_after n rows index s k u ≡ never → source_after n rows index s k u ≡ no_source → Arrival k u

  pub arrival : (k u : ℕ) → (u ≡ index → ⊥) → Arrival k u
  unfolding passing tick_after source_after newly
  arrival zero u ne = in-none (λ i. ne (of-only index u i)) (piecewise-out _ _ _ u (λ i. ne (of-only index u i))) refl
  arrival (suc k) u ne = go (arrival k u ne) (has (newly n rows index s k) u) refl
    where
      after : (In (newly n rows index s k) u → ⊥) → Arrival k u → Arrival (suc k) u
      after out (in-tick j l i e f) = in-tick j (omega arith) i (piecewise-out _ _ _ u out ∙ e) (piecewise-out _ _ _ u out ∙ f)
      after out (in-none h e f) =
          in-none (λ i. out (in-difference _ _ u i h)) (piecewise-out _ _ _ u out ∙ e) (piecewise-out _ _ _ u out ∙ f)

      go : Arrival k u → (b : Bool) → has (newly n rows index s k) u ≡ b → Arrival (suc k) u
      go a true t = let i = in-test _ u t in in-tick k (omega arith) i (piecewise-in _ _ _ u i) (piecewise-in _ _ _ u i)
      go a false t = after (out-test _ u t) a

  -- the index keeps s and has no source
  index_kept : (k : ℕ) → In (newly n rows index s k) index → ⊥
  unfolding newly
  index_kept k i = (of-difference _ _ index i).1 (index-passes n rows index s k)

  pub index-tick : (k : ℕ) → tick_after n rows index s k index ≡ s
  unfolding tick_after
  index-tick zero = piecewise-in _ _ _ index (in-only index)
  index-tick (suc k) = piecewise-out _ _ _ index (index_kept k) ∙ index-tick k

  pub index-source : (k : ℕ) → source_after n rows index s k index ≡ no_source
  unfolding source_after
  index-source zero = refl
  index-source (suc k) = piecewise-out _ _ _ index (index_kept k) ∙ index-source k
