-- A list that is a trace is the only one.
use mathlib.Core.Path.{◌≡◌, sym, ◌∙◌, subst}
use mathlib.Core.List.{List}
use mathlib.Core.Logic.{by_cases}
use Prim.Native.Nat.{ℕ, ◌≤◌, ◌<◌}
use native.Mathlib.Decide.{dec_lt, ℕ_discrete}
use native.Mathlib.Omega.{arith}
use Rattle.chains.specs.Chains.{Contact, Chain}
use Rattle.chains.specs.Traces.{never, tick_in, source_in, Other, IsSource, IsTrace}
use Rattle.chains.specs.Sweep.{trace_bytes}
use Rattle.chains.specs.Judging.{StartOfDay}
use Rattle.chains.proofs.TicksFirst.{halves-same}
use Rattle.chains.proofs.TraceForm.{source-by, trace-is}

-- a badge has one source
one-source : {Meet : ℕ → ℕ → ℕ → Type 0} {index s t u v w : ℕ} {f : ℕ → ℕ} → IsSource Meet index s f t u v → IsSource Meet index s f t u w → v ≡ w
one-source {v = v} {w = w} a b = let h = a.smallest w b.meets b.passes in let k = b.smallest v a.meets a.passes in omega arith

-- a badge has a tick, which is a byte; where a chain arrives it is that of an arrival, and no later
module _ {Meet : ℕ → ℕ → ℕ → Type 0} {n index s : ℕ} {l : List ℕ} (x : IsTrace Meet n index s l) where
  pub tick-most : (u : ℕ) → u < n → tick_in l u ≤ never
  tick-most u h = omega (arith, x.bytes.at u (omega (arith, x.long)))

  pub tick-arrived : {u t : ℕ} → Other n index u → Chain Meet index s u t → (tick_in l u < never) × (tick_in l u ≤ t)
  tick-arrived {u} {t} o c = by_cases (dec_lt (tick_in l u) never)
      (λ h. (h, (x.reached u o h).soonest t c))
      (λ h. absurd ((x.unreached u o).0 (omega (arith, tick-most u o.below)) t c))

-- over any contacts of n badges
module _ {Meet : ℕ → ℕ → ℕ → Type 0} (n index s : ℕ) (below : (t u v : ℕ) → Meet t u v → u < n) {xs ys : List ℕ} (x : IsTrace Meet n index s xs) (y : IsTrace Meet n index s ys) where
  -- the index, the badges that are reached, and the others
  by-badge : (P : ℕ → Type 0) → P index → ((u : ℕ) → Other n index u → tick_in xs u < never → P u) → ((u : ℕ) → Other n index u → tick_in xs u ≡ never → P u)
      → (u : ℕ) → u < n → P u
  by-badge P i r e u l =
      by_cases (ℕ_discrete u index)
      (λ f. subst P (sym f) i)
      (λ f. let o : Other n index u = record { below = l; apart = f } in by_cases (dec_lt (tick_in xs u) never) (λ h. r u o h) (λ h. e u o (omega (arith, tick-most x u l))))

  same-tick : (u : ℕ) → u < n → tick_in xs u ≡ tick_in ys u
  same-tick = by-badge (λ u. tick_in xs u ≡ tick_in ys u) (x.start ∙ sym y.start)
      (λ u o h.
      let a = x.reached u o h in
      let b = tick-arrived y o a.arrives in
      let c = a.soonest _ (y.reached u o b.0).arrives in
      omega arith)
      (λ u o e. e ∙ sym ((y.unreached u o).1 ((x.unreached u o).0 e)))

  same_source : (u : ℕ) → u < n → source_in n xs u ≡ source_in n ys u
  same_source = by-badge (λ u. source_in n xs u ≡ source_in n ys u) (x.origin ∙ sym y.origin)
      (λ u o h.
      one-source
      (subst (λ (t : ℕ). IsSource Meet index s (tick_in ys) t u (source_in n xs u)) (same-tick u o.below) (source-by (tick_in xs) (tick_in ys) (λ t w v m. same-tick w (below t w v m)) (x.source u o h)))
      (y.source u o (omega (arith, same-tick u o.below))))
      (λ u o e. x.sourceless u o e ∙ sym (y.sourceless u o (sym (same-tick u o.below) ∙ e)))

  pub trace-unique : xs ≡ ys
  trace-unique = halves-same n xs ys x.long y.long same-tick same_source

-- So a day's trace is what the sweep works out.
pub trace-only : {n T : ℕ} {ws : List ℕ} {index s : ℕ} {l : List ℕ} → StartOfDay n T ws index s → IsTrace (Contact n T ws) n index s l → l ≡ trace_bytes n T ws index s
trace-only {n} {T} {ws} {index} {s} d x = trace-unique n index s (λ t u v c. c.one) x (trace-is n T ws index s d)
