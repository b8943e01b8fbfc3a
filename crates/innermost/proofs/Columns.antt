-- Laws of the transposed graph: in-degrees add up over sets; they are the degrees of the transposed graph; symmetric rows are their own transpose.
use mathlib.Core.Path.{◌≡◌, refl, sym, ap, ◌∙◌}
use mathlib.Core.List.{List}
use mathlib.Core.Logic.{by_cases}
use Prim.Native.Nat.{ℕ, ◌+◌, ◌≤◌}
use native.Mathlib.Decide.{ℕ_discrete}
use native.Mathlib.Omega.{arith}
use Rattle.sets.specs.Sets.{bit, In, Sub, has, intersection, difference, only, set_of, full, size}
use Rattle.sets.proofs.Bits.{bit-lt}
use Rattle.sets.proofs.Sets.{not-in-none, in-test, has-test, in-intersection, of-intersection-left, of-intersection-right, in-difference, of-difference, in-only, of-only, in-filter, of-filter, in-full, of-full, ext}
use Rattle.sets.proofs.Size.{size_none, size_mono, size-split, size-only}
use Rattle.cores.specs.Graphs.{degree, Symmetric}
use Rattle.cores.specs.Cores.{core}
use Rattle.cores.specs.Orders.{HighestFound}
use Rattle.cores.specs.Rows.{graph, IsHighest}
use Rattle.innermost.specs.Columns.{transposed, in_degree}
use Rattle.cores.proofs.Degrees.{FewerPairs}
use Rattle.cores.proofs.Cores.{core-same}
use Rattle.cores.proofs.Orders.{found_among}

module _ (rows : ℕ → ℕ) where
  -- who has badge v in its row
  pub in-transposed : (s u v : ℕ) → In s u → In (rows u) v → In (transposed rows s v) u
  unfolding transposed
  in-transposed s u v i j = in-filter (λ u. has (rows u) v) s u i (has-test (rows u) v j)

  pub of-transposed : (s u v : ℕ) → In (transposed rows s v) u → In s u × In (rows u) v
  unfolding transposed
  of-transposed s u v i = let r = of-filter (λ u. has (rows u) v) s u i in (r.0, in-test (rows u) v r.1)

  -- no in-degree is larger than the set
  pub in-degree-le : (s v : ℕ) → in_degree rows s v ≤ size s
  unfolding in_degree
  in-degree-le s v = size_mono (record { at = λ u i. (of-transposed s u v i).0 })

  -- the in-degrees in a part of a set and in the others add up
  pub in-degree-split : (s t v : ℕ) → Sub t s → in_degree rows s v ≡ in_degree rows t v + in_degree rows (difference s t) v
  unfolding in_degree
  in-degree-split s t v h =
      let a : intersection (transposed rows s v) t ≡ transposed rows t v = ext _ _
      (λ u i. in-transposed t u v (of-intersection-right (transposed rows s v) t u i) (of-transposed s u v (of-intersection-left (transposed rows s v) t u i)).1)
      (λ u i. let r = of-transposed t u v i in in-intersection (transposed rows s v) t u (in-transposed s u v (h.at u r.0) r.1) r.0) in
      let b : difference (transposed rows s v) t ≡ transposed rows (difference s t) v = ext _ _
      (λ u i. let d = of-difference (transposed rows s v) t u i in let r = of-transposed s u v d.0 in in-transposed (difference s t) u v (in-difference s t u r.0 d.1) r.1)
      (λ u i. let r = of-transposed (difference s t) u v i in let d = of-difference s t u r.0 in in-difference (transposed rows s v) t u (in-transposed s u v d.0 r.1) d.1) in
      omega (arith, size-split (transposed rows s v) t, ap size a, ap size b)

  -- in the empty set, and in a set of one badge
  pub in-degree-none : (v : ℕ) → in_degree rows 0 v ≡ 0
  in-degree-none v = omega (arith, in-degree-le 0 v, size_none)

  pub in-degree-only : (u v : ℕ) → in_degree rows (only u) v ≡ bit (rows u) v
  unfolding in_degree
  in-degree-only u v = by_cases (ℕ_discrete (bit (rows u) v) 1)
      (λ j. let e : transposed rows (only u) v ≡ only u = ext _ _ (λ w i. (of-transposed (only u) w v i).0)
      (λ w i. let f : w ≡ u = of-only u w i in in-transposed (only u) w v i (rw f j)) in
      ap size e ∙ size-only u ∙ sym j)
      (λ j. let e : transposed rows (only u) v ≡ 0 = ext _ _
      (λ w i. let r = of-transposed (only u) w v i in let f : w ≡ u = of-only u w r.0 in absurd (j (rw f at r.1)))
      (λ w i. absurd (not-in-none w i)) in
      omega (arith, ap size e, size_none, bit-lt (rows u) v))

  -- without one member
  pub in-degree-less : (s u v : ℕ) → In s u → in_degree rows s v ≡ bit (rows u) v + in_degree rows (difference s (only u)) v
  in-degree-less s u v i = in-degree-split s (only u) v (record { at = λ w j. let e : w ≡ u = of-only u w j in rw e i })
      ∙ ap (λ (x : ℕ). x + in_degree rows (difference s (only u)) v) (in-degree-only u v)

  -- among all badges below m: none at first, then one row after another
  pub in-degree-full-none : (v : ℕ) → in_degree rows (full 0) v ≡ 0
  unfolding full set_of
  in-degree-full-none v = in-degree-none v

  in-degree-full : (m n v : ℕ) → n ≡ m + 1 → in_degree rows (full n) v ≡ bit (rows m) v + in_degree rows (full m) v
  in-degree-full m n v e =
      let d : difference (full n) (only m) ≡ full m = ext _ _
      (λ u i. let x = of-difference (full n) (only m) u i in in-full m u (omega (arith, of-full n u x.0, apart u x.1)))
      (λ u i. in-difference (full n) (only m) u (in-full n u (omega (arith, of-full m u i))) (λ o. omega (arith, of-only m u o, of-full m u i))) in
      in-degree-less (full n) m v (in-full n m (omega arith)) ∙ ap (λ (x : ℕ). bit (rows m) v + in_degree rows x v) d
    where
      apart : (u : ℕ) → (In (only m) u → ⊥) → u ≡ m → ⊥
      apart u f g = f (rw g (in-only m))

  pub in-degree-full-eight : (m v : ℕ) → in_degree rows (full (m + 8)) v ≡
      in_degree rows (full m) v
      + (bit (rows m) v + bit (rows (m + 1)) v + bit (rows (m + 2)) v + bit (rows (m + 3)) v + bit (rows (m + 4)) v + bit (rows (m + 5)) v + bit (rows (m + 6)) v + bit (rows (m + 7)) v)
  in-degree-full-eight m v = omega (
    arith,
    in-degree-full m (m + 1) v refl,
    in-degree-full (m + 1) (m + 2) v (omega arith),
    in-degree-full (m + 2) (m + 3) v (omega arith),
    in-degree-full (m + 3) (m + 4) v (omega arith),
    in-degree-full (m + 4) (m + 5) v (omega arith),
    in-degree-full (m + 5) (m + 6) v (omega arith),
    in-degree-full (m + 6) (m + 7) v (omega arith),
    in-degree-full (m + 7) (m + 8) v (omega arith),
  )

  -- The in-degrees in a subset are the degrees in the transposed graph.
  pub degree-transposed : (base s v : ℕ) → Sub s base → degree (transposed rows base) s v ≡ in_degree rows s v
  unfolding degree in_degree
  degree-transposed base s v h = ap size (ext _ _
      (λ u i. in-transposed s u v (of-intersection-right (transposed rows base v) s u i) (of-transposed base u v (of-intersection-left (transposed rows base v) s u i)).1)
      (λ u i. let r = of-transposed s u v i in in-intersection (transposed rows base v) s u (in-transposed base u v (h.at u r.0) r.1) r.0))

  -- among the badges of a subset, the graph that is transposed there has the same cores
  pub core-transposed : (base s k : ℕ) → Sub s base → core (transposed rows s) s k ≡ core (transposed rows base) s k
  core-transposed base s k h = core-same s k
      (record { pair = λ u v i j m. let r = of-transposed s v u m in in-transposed base v u (h.at v j) r.1 })
      (record { pair = λ u v i j m. let r = of-transposed base v u m in in-transposed s v u j r.1 })

  -- Symmetric rows have the pairs of the transposed graph, and no others.
  module _ (base : ℕ) (h : Symmetric rows base) where
    pub transposed-fewer : FewerPairs base (transposed rows base) rows
    transposed-fewer = record { pair = λ u v i j m. h.back v u j i (of-transposed base v u m).1 }

    pub transposed-more : FewerPairs base rows (transposed rows base)
    transposed-more = record { pair = λ u v i j m. in-transposed base v u j (h.back u v i j m) }

-- So for symmetric rows the highest core is that of the graph.
pub symmetric-climbed : {rows : ℕ → ℕ} {base query above most k s : ℕ} → Symmetric rows base → HighestFound (transposed rows base) base query above most k s
    → HighestFound rows base query above most k s
symmetric-climbed {rows} {base} h c = found_among (record { at = λ j l. core-same base j (transposed-fewer rows base h) (transposed-more rows base h) }) c

pub symmetric-highest : {rows : List ℕ} {base query above most k s : ℕ} {rows' : List ℕ} → Symmetric (graph rows) base
    → IsHighest (transposed (graph rows) base) rows base query above most k s rows' → IsHighest (graph rows) rows base query above most k s rows'
symmetric-highest h c =
    let x = symmetric-climbed h (record { order = c.order; members = c.members }) in
    record { order = x.order; members = x.members; back = c.back }
