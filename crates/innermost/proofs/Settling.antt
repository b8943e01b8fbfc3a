-- Laws of dropping, all at once, the badges whose in-degree is below an order: what is left holds the core, and it is the core where nobody
-- is dropped. There is no core where fewer badges are left than the order.
use mathlib.Core.Path.{◌≡◌, ap}
use mathlib.Core.Bool.{true, false}
use mathlib.Core.Logic.{by_cases}
use Prim.Native.Nat.{ℕ, ◌^◌, ◌≤◌, ◌<◌}
use native.Mathlib.Decide.{dec_le, dec_lt}
use native.Mathlib.Omega.{arith}
use lib.Dec.{ltb}
use borrow.Author.Tests.{lt-ltb}
use Rattle.sets.specs.Bools.{◌and◌}
use Rattle.sets.specs.Sets.{In, Sub, is_sub, intersection, difference, size}
use Rattle.sets.specs.Members.{capacity}
use Rattle.sets.proofs.Bools.{clash, and_in, to-false}
use Rattle.sets.proofs.Sets.{not-in-none, some, in-intersection, of-intersection-left, of-intersection-right, in-difference, of-difference, in-lt, sub_trans, sub-antisym, is-sub-in}
use Rattle.sets.proofs.Size.{size_none, size_mono, none-of-size, size-split}
use Rattle.planes.specs.Lanes.{half}
use Rattle.cores.specs.Graphs.{degree}
use Rattle.cores.specs.Cores.{core}
use Rattle.cores.specs.Orders.{contains}
use Rattle.innermost.specs.Columns.{transposed, in_degree}
use Rattle.innermost.specs.Degrees.{Counting, Reached}
use Rattle.innermost.specs.Rising.{Settled}
use Rattle.cores.proofs.Degrees.{degree-le, degree-grows}
use Rattle.cores.proofs.Cores.{core-cohesive, core-largest}
use Rattle.cores.proofs.Orders.{contains-of}
use Rattle.innermost.proofs.Columns.{degree-transposed}
use Rattle.cores.proofs.Peelings.{Peeling, peel-none}

-- What is left of the set s while badges are dropped at order k.
pub record Settling (rows : ℕ → ℕ) (s k left : ℕ) (a : ℕ → ℕ) : Type 0 where
  pub peeling : Peeling (transposed rows s) s k left
  pub counting : Counting rows left k a

pub settling-start : {rows : ℕ → ℕ} {s k : ℕ} {a : ℕ → ℕ} → Counting rows s k a → Settling rows s k s a
settling-start {rows} {s} {k} c = record { peeling = peel-none _ _ _; counting = c }

module _ {rows : ℕ → ℕ} {s k left : ℕ} (w : s < 2 ^ capacity) {a : ℕ → ℕ} (h : Settling rows s k left a) {top : ℕ} (g : Reached half a top) {low : ℕ} (e : low ≡ intersection left top) where
  pub low-sub : Sub low left
  low-sub = record { at = λ v i. of-intersection-left left top v (rw e at i) }

  here : (v : ℕ) → In left v → v < capacity
  here v i = in-lt capacity s v w (h.peeling.within.at v i)

  -- the badges whose number is half or more are those whose in-degree is below the order
  low_of : (v : ℕ) → In left v → In top v → in_degree rows left v < k
  low_of v i j = omega (arith, g.of v (here v i) j, h.counting.each v i)

  low-in : (v : ℕ) → In left v → in_degree rows left v < k → In top v
  low-in v i f = g.has v (here v i) (omega (arith, h.counting.each v i))

  -- those dropped are in no core
  pub settling-less : Peeling (transposed rows s) s k (difference left low)
  settling-less = record {
    within = sub_trans (record { at = λ v i. (of-difference left low v i).0 }) h.peeling.within;
    holds = record {
      at = λ v i.
          let j = h.peeling.holds.at v i in
          in-difference left low v j (λ d.
          let f = low_of v j (of-intersection-right left top v (rw e at d)) in
          omega (
            arith,
            (core-cohesive (transposed rows s) s k).each v i,
            degree-grows (transposed rows s) h.peeling.holds v,
            degree-transposed rows s left v h.peeling.within,
          ));
    };
  }

  -- fewer are left, where somebody is dropped
  pub settling-falls : (low ≡ 0 → ⊥) → size (difference left low) < size left
  settling-falls f =
      let same : intersection left low ≡ low = sub-antisym _ _ (record { at = of-intersection-right left low }) (record { at = λ v i. in-intersection left low v (low-sub.at v i) i }) in
      let p : size low ≡ 0 → ⊥ = λ z. f (none-of-size low z) in
      omega (arith, size-split left low, ap size same)

  -- where nobody is dropped, the core is left
  pub settling-core : low ≡ 0 → left ≡ core (transposed rows s) s k
  settling-core z = sub-antisym _ _ (core-largest (transposed rows s) s k left h.peeling.within (record { each = enough })) h.peeling.holds
    where
      enough : (v : ℕ) → In left v → k ≤ degree (transposed rows s) left v
      enough v i = by_cases (dec_le k (in_degree rows left v))
          (λ l. rw (degree-transposed rows s left v h.peeling.within) l)
          (λ f. let d = in-intersection left top v i (low-in v i (omega arith)) in absurd (not-in-none v (rw (← e, z) at d)))

  pub settling-end : (query : ℕ) → low ≡ 0 → (ltb 0 left and is_sub query left) ≡ true → Settled rows s query k left a
  unfolding contains
  settling-end query z t = let f = settling-core z in record { contained = rw (← f) t; found = f; counting = h.counting }

-- There is no core of an order above the number of badges left, and none that contains a query of which a badge is not left.
module _ (rows : ℕ → ℕ) {s k left : ℕ} (h : Peeling (transposed rows s) s k left) (query : ℕ) where
  pub too_few : size left < k → contains (transposed rows s) s query k ≡ false
  too_few l = to-false _ (λ t.
      let p = (contains-of (transposed rows s) s query k t).0 in
      let m = some (core (transposed rows s) s k) (λ e. omega arith) in
      omega (
        arith,
        (core-cohesive (transposed rows s) s k).each m.0 m.1,
        degree-le (transposed rows s) (core (transposed rows s) s k) m.0,
        size_mono h.holds,
      ))

  pub query-lost : is_sub query left ≡ false → contains (transposed rows s) s query k ≡ false
  query-lost f = to-false _ (λ t. clash (is-sub-in (sub_trans (contains-of (transposed rows s) s query k t).1 h.holds)) f)

-- Where neither is so, the query is in what is left.
pub still-contained : (query left : ℕ) {k : ℕ} → 1 ≤ k → k ≤ size left → is_sub query left ≡ true → (ltb 0 left and is_sub query left) ≡ true
still-contained query left l m t = and_in _ _ (lt-ltb 0 left (by_cases (dec_lt 0 left) (λ p. p) (λ f. let z : left ≡ 0 = omega arith in absurd (omega (arith, ap size z, size_none))))) t
