-- The loop over the ticks: before the turn of tick t the ticks from the start tick to the one before it are swept.
use mathlib.Core.Path.{◌≡◌, sym, ap, ◌∙◌, subst}
use mathlib.Core.List.{List}
use mathlib.Core.Logic.{by_cases, ⊎_elim}
use Prim.Native.Nat.{ℕ, suc, ◌+◌, ◌-◌, ◌*◌, ◌≤◌, ◌<◌}
use native.Mathlib.Decide.{ℕ_discrete}
use native.Mathlib.Omega.{arith}
use lib.ListN.{length, get_or, set, replicate, length-set, length-replicate, get_or-replicate}
use lib.Seq.{get_or-set_same, get_or-set_other}
use Rattle.sets.specs.Sets.{only}
use Rattle.sets.specs.Members.{capacity, insert}
use Rattle.sets.specs.Tables.{piecewise}
use Rattle.sets.specs.Words.{places, set_at}
use Rattle.sets.proofs.Sets.{in-only, of-only, not-in-none, in-union-right, of-union, ext, insert-in}
use Rattle.sets.proofs.Tables.{piecewise-in, piecewise-out}
use Rattle.days.specs.Days.{neighbours}
use Rattle.days.proofs.Days.{tick-fits}
use Rattle.chains.specs.Traces.{never, no_source}
use Rattle.chains.specs.Sweep.{ticks_first, passing, newly, tick_after, source_after, trace_bytes}
use Rattle.chains.specs.Judging.{StartOfDay}
use Rattle.chains.proofs.TicksFirst.{first-length, first-is}
use Rattle.trace.specs.Steps.{PassedTick}

-- before the first tick the index alone is there, with s
begin-passing : (index : ℕ) → index < capacity → insert 0 index ≡ only index
begin-passing index l = insert-in 0 index l ∙ ext _ _ (λ v i. ⊎_elim (λ j. absurd (not-in-none v j)) (λ j. j) (of-union 0 (only index) v i)) (λ v i. in-union-right 0 (only index) v i)

begin-trace : (n index s : ℕ) → index < n → set (replicate (n + n) never) index s ≡ ticks_first n (piecewise (only index) (λ u. s) (λ u. never)) (λ u. no_source)
begin-trace n index s l = first-is n _ _ _ (length-set (replicate (n + n) never) index s ∙ length-replicate (n + n) never)
    (λ u k. by_cases (ℕ_discrete u index)
    (λ e. subst (λ (x : ℕ). get_or (set (replicate (n + n) never) index s) x 0 ≡ piecewise (only index) (λ u. s) (λ u. never) x) (sym e)
    (get_or-set_same (replicate (n + n) never) index s 0 (omega (arith, length-replicate (n + n) never)) ∙ sym (piecewise-in _ _ _ index (in-only index))))
    (λ e. get_or-set_other (replicate (n + n) never) index u s 0 e ∙ get_or-replicate (n + n) u never 0 (omega arith) ∙ sym (piecewise-out _ _ _ u (λ j. e (of-only index u j)))))
    (λ u k. get_or-set_other (replicate (n + n) never) index (n + u) s 0 (λ e. omega arith) ∙ get_or-replicate (n + n) (n + u) never 0 (omega arith))

-- what is known before the turn of tick t
pub record Sweeping (n T : ℕ) (ws : List ℕ) (index s t set : ℕ) (trace : List ℕ) : Type 0 where
  pub asked : StartOfDay n T ws index s
  pub low : s ≤ t
  pub high : t ≤ T
  pub passes : set ≡ passing n (neighbours n ws) index s (t - s)
  pub shows : trace ≡ ticks_first n (tick_after n (neighbours n ws) index s (t - s)) (source_after n (neighbours n ws) index s (t - s))

module _ {n T : ℕ} {ws : List ℕ} {index s : ℕ} where
  pub sweeping-none : {set : ℕ} {cleared : List ℕ} → StartOfDay n T ws index s → n ≤ capacity → set ≡ insert 0 index → cleared ≡ replicate (n + n) never
      → Sweeping n T ws index s s set (lib.ListN.set cleared index s)
  unfolding passing tick_after source_after
  sweeping-none {set} {cleared} d few e f =
      let z : s - s ≡ 0 = omega arith in
      record {
        asked = d;
        low = omega arith;
        high = omega (arith, d.tick);
        passes = rw z (e ∙ begin-passing index (omega (arith, d.badge)));
        shows = rw (z, f) (begin-trace n index s d.badge);
      }

  pub sweeping-long : {t set : ℕ} {trace : List ℕ} → Sweeping n T ws index s t set trace → length trace ≡ n + n
  sweeping-long w = ap length w.shows ∙ first-length n _ _

  module _ {t set : ℕ} {trace : List ℕ} (w : Sweeping n T ws index s t set trace) (l : t < T) where
    -- the sets of the tick are there
    pub sweeping-room : t * n + n ≤ places ws
    sweeping-room = omega (arith, tick-fits t T n l, w.asked.lent.enough)

    -- what the tick adds is what the sweep over one tick more finds
    pub sweeping-more : {reached : ℕ} {after : List ℕ} → PassedTick n (λ u. set_at ws (t * n + u)) t set reached trace after → Sweeping n T ws index s (t + 1) reached after
    unfolding neighbours passing newly tick_after source_after
    sweeping-more {reached} {after} p =
        let k : t + 1 - s ≡ suc (t - s) = omega (arith, w.low) in
        let m : s + (t - s) ≡ t = omega (arith, w.low) in
        let q : PassedTick n (neighbours n ws t) t (passing n (neighbours n ws) index s (t - s)) reached trace after = rw (← w.passes) p in
        record {
          asked = w.asked;
          low = omega (arith, w.low);
          high = omega arith;
          passes = rw (k, m) q.spreads;
          shows = rw (k, m, ← q.spreads) (q.shows _ _ w.shows);
        }

  pub sweeping-done : {t set : ℕ} {trace : List ℕ} → Sweeping n T ws index s t set trace → T ≤ t → trace ≡ trace_bytes n T ws index s
  unfolding trace_bytes
  sweeping-done {t} w h = let e : t ≡ T = omega (arith, w.high) in rw e at w.shows
