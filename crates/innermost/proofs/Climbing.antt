-- Laws of settling at rising orders, each from what the last left.
use mathlib.Core.Path.{◌≡◌, refl, sym, ap, ◌∙◌}
use mathlib.Core.Bool.{true, false}
use mathlib.Core.Logic.{◌⊎◌, inl, inr, by_cases}
use Prim.Native.Nat.{ℕ, ◌+◌, ◌^◌, ◌≤◌, ◌<◌, min, max}
use native.Mathlib.Nat.{le_refl, le_of_lt}
use native.Mathlib.Decide.{dec_le, dec_lt}
use native.Mathlib.Omega.{arith}
use lib.Dec.{ltb}
use borrow.Author.Tests.{lt-ltb}
use Rattle.sets.specs.Bools.{◌and◌}
use Rattle.sets.specs.Sets.{In, Sub, is_sub}
use Rattle.sets.specs.Members.{capacity}
use Rattle.sets.proofs.Bools.{clash, and_in}
use Rattle.sets.proofs.Sets.{sub_refl, sub_trans, sub-pos, sub-antisym, is-sub-in}
use Rattle.sets.proofs.Size.{size-le}
use Rattle.planes.specs.Lanes.{half}
use Rattle.cores.specs.Cores.{core}
use Rattle.cores.specs.Orders.{contains, score, highest_order, highest_members, HighestFound}
use Rattle.innermost.specs.Columns.{transposed, in_degree}
use Rattle.innermost.specs.Degrees.{Counting, Raised, LargestOf}
use Rattle.innermost.specs.Rising.{Settled, Climbed, Climbing}
use Rattle.cores.proofs.Cores.{core-sub, core-largest, core-again}
use Rattle.cores.proofs.Orders.{contains-of, score-of, score-in, score-le, highest-yes, highest-no}
use Rattle.innermost.proofs.Columns.{degree-transposed, core-transposed}
use Rattle.innermost.proofs.CountedDegrees.{counting-raised}

-- if the core of the next order contains the query, it is the highest found
pub climb-more : {rows : ℕ → ℕ} {base query above most order t s : ℕ} → Climbed rows base query above most order t → order < most
    → contains rows base query (order + 1) ≡ true → s ≡ core rows base (order + 1) → Climbed rows base query above most (order + 1) s
climb-more c l q e = record { low = omega (arith, c.low); high = omega arith; state = inr (omega (arith, c.low), q, e) }

-- where the next order's does not, or is no longer asked for, the one found is the highest
module _ {rows : ℕ → ℕ} {base query above most order s : ℕ} (c : Climbed rows base query above most order s)
    (e : (contains rows base query (order + 1) ≡ false) ⊎ (most ≤ order)) where
  lower : min most (score rows base query) ≤ order
  lower = go e
    where
      go : (contains rows base query (order + 1) ≡ false) ⊎ (most ≤ order) → min most (score rows base query) ≤ order
      go (inl f) = by_cases (dec_le (score rows base query) order) (λ b. omega arith)
          (λ b. absurd (clash (score-of rows base query (order + 1) (omega arith) (omega arith)) f))
      go (inr f) = omega arith

  pub climbed-order : order ≡ highest_order rows base query above most
  unfolding highest_order
  climbed-order = go c.state
    where
      go : ((order ≡ above) × (s ≡ 0)) ⊎ ((above < order) × (contains rows base query order ≡ true) × (s ≡ core rows base order))
          → order ≡ max above (min most (score rows base query))
      go (inl x) = omega (arith, x.0, lower)
      go (inr x) = omega (arith, x.0, c.high, lower, score-in rows base query order x.1)

  pub climbed-members : s ≡ highest_members rows base query above most
  climbed-members = go c.state
    where
      go : ((order ≡ above) × (s ≡ 0)) ⊎ ((above < order) × (contains rows base query order ≡ true) × (s ≡ core rows base order))
          → s ≡ highest_members rows base query above most
      go (inl x) = x.1 ∙ sym (highest-no rows base query above most (omega (arith, x.0, lower)))
      go (inr x) =
          let f : order ≡ min most (score rows base query) = omega (arith, c.high, lower, score-in rows base query order x.1) in
          x.2 ∙ ap (core rows base) f ∙ sym (highest-yes rows base query above most (omega (arith, x.0)))

-- at first no core is found, and the whole base is left
pub climbing-start : {rows : ℕ → ℕ} {base : ℕ} (query : ℕ) {above stop : ℕ} {a : ℕ → ℕ} → above ≤ stop → Counting rows base (above + 1) a → Climbing rows base query above stop above 0 base a
climbing-start {base = base} query l c = record {
  within = sub_refl base;
  same = λ j m. refl;
  counting = λ m. c;
  climbed = record { low = le_refl _; high = l; state = inl (refl, refl) };
}

-- Where no member of the base has an in-degree below an order, the base is the core of this order: the first to be tried is the next.
pub climbing-jump : {rows : ℕ → ℕ} {base query above stop order : ℕ} {a : ℕ → ℕ} → ((v : ℕ) → In base v → order ≤ in_degree rows base v) → above < order → order ≤ stop
    → (ltb 0 base and is_sub query base) ≡ true → (order < stop → Counting rows base (order + 1) a) → Climbing rows base query above stop order base base a
unfolding contains
climbing-jump {rows} {base} {order = order} h a b t c = record {
  within = sub_refl base;
  same = λ j m. refl;
  counting = c;
  climbed = record { low = le_of_lt a; high = b; state = inr (a, rw (← whole) t, whole) };
}
  where
    whole : base ≡ core (transposed rows base) base order
    whole = sub-antisym _ _
        (core-largest (transposed rows base) base order base (sub_refl base) (record { each = λ v i. rw (degree-transposed rows base base v (sub_refl base)) (h v i) }))
        (core-sub (transposed rows base) base order)

-- The least in-degree of a set, by the largest number in its lanes.
module _ {rows : ℕ → ℕ} {s k m : ℕ} {a : ℕ → ℕ} (c : Counting rows s k a) (g : LargestOf s a m) where
  pub lanes_small : 0 < s → m < k + half
  lanes_small p = let x = g.attained p in omega (arith, x.2, c.each x.0 x.1)

  pub lanes-least : (d : ℕ) → d + m + 1 ≤ k + half → (v : ℕ) → In s v → d ≤ in_degree rows s v
  lanes-least d e v i = omega (arith, g.each v i, c.each v i)

module _ {rows : ℕ → ℕ} {base query above stop order found left : ℕ} {a : ℕ → ℕ} (h : Climbing rows base query above stop order found left a) (k : ℕ) (e : k ≡ order + 1) where
  -- among the badges left, the core of the next order is that among the base
  pub climbing-test : contains (transposed rows left) left query k ≡ contains (transposed rows base) base query (order + 1)
  unfolding contains
  climbing-test = rw (e, h.same (order + 1) (omega arith)) refl

  module _ {next : ℕ} {b : ℕ → ℕ} (s : Settled rows left query k next b) where
    next-core : next ≡ core (transposed rows base) base (order + 1)
    next-core = rw e at s.found ∙ h.same (order + 1) (omega arith)

    next-within : Sub next base
    next-within = rw next-core (core-sub (transposed rows base) base (order + 1))

    -- if it contains the query, it is the highest core so far
    pub climbing-more : {c : ℕ → ℕ} → order < stop → stop ≤ half → Raised next (λ v. 1) b c → Climbing rows base query above stop (order + 1) next next c
    climbing-more l f p = record {
      within = next-within;
      same = λ j m. core-transposed rows base next j next-within ∙ ap (λ (x : ℕ). core (transposed rows base) x j) next-core ∙ core-again (transposed rows base) base (order + 1) j (omega arith);
      counting = λ m. counting-raised (rw e at s.counting) (omega arith) p;
      climbed = climb-more h.climbed l (sym climbing-test ∙ s.contained) next-core;
    }

-- and it is there, and contains the query
pub settled-contains : {rows : ℕ → ℕ} {s query k next : ℕ} {b : ℕ → ℕ} → Settled rows s query k next b → (ltb 0 next and is_sub query next) ≡ true
unfolding contains
settled-contains s = rw s.found s.contained

pub climbing-end : {rows : ℕ → ℕ} {base query above stop order found left : ℕ} {a : ℕ → ℕ} → Climbing rows base query above stop order found left a
    → (contains (transposed rows base) base query (order + 1) ≡ false) ⊎ (stop ≤ order) → HighestFound (transposed rows base) base query above stop order found
climbing-end h e = record { order = climbed-order h.climbed e; members = climbed-members h.climbed e }

-- Where the base itself does not contain the query, no core does.
pub climbed-lost : (g : ℕ → ℕ) (base query above most : ℕ) → (ltb 0 base and is_sub query base) ≡ false → HighestFound g base query above most above 0
unfolding highest_order
climbed-lost g base query above most f = record { order = omega (arith, none); members = sym (highest-no g base query above most (omega (arith, none))) }
  where
    none : score g base query ≡ 0
    none = by_cases (dec_le 1 (score g base query))
        (λ l.
        let c = contains-of g base query (score g base query) (score-of g base query (score g base query) l (le_refl _)) in
        let b = core-sub g base (score g base query) in
        absurd (clash (and_in _ _ (lt-ltb _ _ (sub-pos b c.0)) (is-sub-in (sub_trans c.1 b))) f))
        (λ l. omega arith)

-- No order above the capacity has a core.
module _ (g : ℕ → ℕ) (base query above most : ℕ) {stop : ℕ} (w : base < 2 ^ capacity) (e : stop ≡ min most capacity) where
  same-most : min stop (score g base query) ≡ min most (score g base query)
  same-most = omega (arith, score-le g base query, size-le capacity base w)

  same-members : highest_members g base query above stop ≡ highest_members g base query above most
  same-members = by_cases (dec_lt above (min most (score g base query)))
      (λ h. highest-yes g base query above stop (omega (arith, same-most)) ∙ ap (core g base) same-most ∙ sym (highest-yes g base query above most h))
      (λ h. highest-no g base query above stop (omega (arith, same-most)) ∙ sym (highest-no g base query above most (omega arith)))

  pub climbed-all : {order found : ℕ} → HighestFound g base query above stop order found → HighestFound g base query above most order found
  unfolding highest_order
  climbed-all h = record { order = rw same-most at h.order; members = h.members ∙ same-members }

  pub climbed-none : stop ≤ above → HighestFound g base query above most above 0
  unfolding highest_order
  climbed-none l = record {
    order = omega (arith, same-most);
    members = sym (highest-no g base query above most (omega (arith, same-most)));
  }
