-- Laws of growing: the circle of a member holds just those that a chain joins to it, and is a circle.
use mathlib.Core.Path.{◌≡◌, refl, sym}
use mathlib.Core.Bool.{true}
use mathlib.Core.Logic.{◌⊎◌, inl, inr, ⊎_elim}
use Prim.Native.Nat.{ℕ, zero, suc, ◌+◌, ◌-◌, ◌≤◌, ◌<◌}
use native.Mathlib.Nat.{eq-or-lt_of_le}
use native.Mathlib.Omega.{arith}
use lib.Dec.{eqb}
use borrow.Author.Tests.{eqb-true, eq-eqb, ltb-true, lt-ltb}
use Rattle.sets.specs.Sets.{In, Sub, has, filter, size}
use Rattle.sets.proofs.Bools.{or_left, or_right, or-of}
use Rattle.sets.proofs.Sets.{not-in-none, some, in-test, has-test, in-filter, of-filter, sub_refl, sub_trans, sub-antisym}
use Rattle.sets.proofs.Size.{size_mono, size-eq, size-pos}
use Rattle.cores.specs.Graphs.{Symmetric}
use Rattle.circles.specs.Chains.{Chain, start, link, IsCircle}
use Rattle.circles.specs.Circles.{reaches, grow, grows, circle}
use Rattle.circles.proofs.Chains.{chain_first, chain-last, chain-append, chain_back}

-- a set with a member is not empty
pub member-pos : (s u : ℕ) → In s u → 0 < s
member-pos zero u i = absurd (not-in-none u i)
member-pos (suc s) u i = omega arith

module _ (rows : ℕ → ℕ) (s : ℕ) where
  -- some member of t has v as its neighbour exactly when the test says so
  reaches-in : (t u v : ℕ) → In t u → In (rows u) v → reaches rows t v ≡ true
  unfolding reaches
  reaches-in t u v i j = lt-ltb _ _ (member-pos (filter (λ u. has (rows u) v) t) u (in-filter (λ u. has (rows u) v) t u i (has-test (rows u) v j)))

  reaches_of : (t v : ℕ) → reaches rows t v ≡ true → (u : ℕ) × In t u × In (rows u) v
  unfolding reaches
  reaches_of t v e =
      let l = ltb-true 0 (filter (λ u. has (rows u) v) t) e in
      let m = some (filter (λ u. has (rows u) v) t) (λ z. omega arith) in
      let r = of-filter (λ u. has (rows u) v) t m.0 m.1 in
      (m.0, r.0, in-test (rows m.0) v r.1)

  -- who is in a set that has grown
  grow-kept : (t : ℕ) → Sub t s → Sub t (grow rows s t)
  unfolding grow
  grow-kept t h = record { at = λ v i. in-filter _ s v (h.at v i) (or_left (has t v) _ (has-test t v i)) }

  grow-next : (t u v : ℕ) → In t u → In (rows u) v → In s v → In (grow rows s t) v
  unfolding grow
  grow-next t u v i p j = in-filter _ s v j (or_right (has t v) _ (reaches-in t u v i p))

  grow-of : (t v : ℕ) → In (grow rows s t) v → In s v × (In t v ⊎ ((u : ℕ) × In t u × In (rows u) v))
  unfolding grow
  grow-of t v i = let r = of-filter _ s v i in (r.0, ⊎_elim (λ e. inl (in-test t v e)) (λ e. inr (reaches_of t v e)) (or-of _ _ r.1))

  grow-within : (t : ℕ) → Sub (grow rows s t) s
  grow-within t = record { at = λ v i. (grow-of t v i).0 }

  grows-within : (m t : ℕ) → Sub t s → Sub (grows rows s m t) s
  unfolding grows
  grows-within zero t h = h
  grows-within (suc m) t h = grows-within m (grow rows s t) (grow-within t)

  grows-kept : (m t : ℕ) → Sub t s → Sub t (grows rows s m t)
  unfolding grows
  grows-kept zero t h = sub_refl t
  grows-kept (suc m) t h = sub_trans (grow-kept t h) (grows-kept m (grow rows s t) (grow-within t))

  -- a set that does not grow stays so
  grows-fixed : (m t : ℕ) → grow rows s t ≡ t → grows rows s m t ≡ t
  unfolding grows
  grows-fixed zero t e = refl
  grows-fixed (suc m) t e = rw e (grows-fixed m t e)

  -- every time adds a member, until none is left to add
  settles : (m t : ℕ) → Sub t s → size s ≤ size t + m → grow rows s (grows rows s m t) ≡ grows rows s m t
  unfolding grows
  settles zero t h l =
      let e : t ≡ s = size-eq t s h (omega arith) in
      sub-antisym _ _ (sub_trans (grow-within t) (rw e (sub_refl s))) (grow-kept t h)
  settles (suc m) t h l = go (settles m (grow rows s t) (grow-within t)) (eq-or-lt_of_le (size_mono (grow-kept t h)))
    where
      go : (size s ≤ size (grow rows s t) + m → grow rows s (grows rows s m (grow rows s t)) ≡ grows rows s m (grow rows s t))
          → (size t ≡ size (grow rows s t)) ⊎ (size t < size (grow rows s t))
          → grow rows s (grows rows s m (grow rows s t)) ≡ grows rows s m (grow rows s t)
      go ih (inr g) = ih (omega arith)
      go ih (inl g) =
          let f : grow rows s t ≡ t = sym (size-eq t _ (grow-kept t h) (omega arith)) in
          let k : grows rows s m t ≡ t = grows-fixed m t f in
          rw (f, k, f)

  -- whoever growing adds is joined to one who was there
  grows-chain : (m t v : ℕ) → Sub t s → In (grows rows s m t) v → (u : ℕ) × In t u × Chain rows s u v
  unfolding grows
  grows-chain zero t v h i = (v, i, start (h.at v i))
  grows-chain (suc m) t v h i = let r = grows-chain m (grow rows s t) v (grow-within t) i in go r.0 r.2 (grow-of t r.0 r.1).1
    where
      go : (w : ℕ) → Chain rows s w v → In t w ⊎ ((u : ℕ) × In t u × In (rows u) w) → (u : ℕ) × In t u × Chain rows s u v
      go w c (inl j) = (w, j, c)
      go w c (inr x) = (x.0, x.1, chain-append (link (start (h.at x.0 x.1)) x.2 (chain_first c)) c)

  module _ (u : ℕ) where
    alone : ℕ
    alone = filter (λ v. eqb v u) s

    alone-within : Sub alone s
    unfolding alone
    alone-within = record { at = λ v i. (of-filter (λ v. eqb v u) s v i).0 }

    alone-has : In s u → In alone u
    unfolding alone
    alone-has i = in-filter (λ v. eqb v u) s u i (eq-eqb u u refl)

    -- The circle of u holds whoever a chain joins to u,
    pub in-circle : (v : ℕ) → Chain rows s u v → In (circle rows s u) v
    unfolding circle alone
    in-circle v (start i) = (grows-kept (size s - 1) alone alone-within).at u (alone-has i)
    in-circle v (link {v = w} c p i) =
        let one : 0 < size alone = size-pos alone u (alone-has (chain_first c)) in
        rw (settles (size s - 1) alone alone-within (omega arith)) at (grow-next (circle rows s u) w v (in-circle w c) p i)

    -- and nobody else
    pub of-circle : (v : ℕ) → In (circle rows s u) v → Chain rows s u v
    unfolding circle alone
    of-circle v i =
        let r = grows-chain (size s - 1) alone v alone-within i in
        let e : r.0 ≡ u = eqb-true _ _ (of-filter (λ v. eqb v u) s r.0 r.1).1 in
        rw e at r.2

    pub circle-within : Sub (circle rows s u) s
    circle-within = record { at = λ v i. chain-last (of-circle v i) }

    -- a member is in its circle,
    pub circle-own : In s u → In (circle rows s u) u
    circle-own i = in-circle u (start i)

    -- and that is a circle
    pub circle-is : Symmetric rows s → In s u → IsCircle rows s (circle rows s u)
    circle-is y i = record {
      some = member-pos _ u (circle-own i);
      within = circle-within;
      joined = λ v w j k. chain-append (chain_back y (of-circle v j)) (of-circle w k);
      closed = λ v w j c. in-circle w (chain-append (of-circle v j) c);
    }
