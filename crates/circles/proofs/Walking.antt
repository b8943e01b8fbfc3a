-- Laws of the walk that finds the circle of the smallest member: what holds at its start, after one member more, and at its end.
use mathlib.Core.Path.{◌≡◌, sym, ◌∙◌}
use mathlib.Core.Bool.{Bool, true, false}
use mathlib.Core.Logic.{◌⊎◌, inl, inr, by_cases}
use Prim.Native.Nat.{ℕ, ◌^◌, ◌<◌}
use native.Mathlib.Nat.{lt_of_le_of_lt}
use native.Mathlib.Decide.{ℕ_discrete}
use lib.Dec.{eqb}
use borrow.Author.Tests.{eqb-true, eqb-false}
use Rattle.sets.specs.Sets.{bit, In, Sub, intersection, union, difference, only, size, smallest}
use Rattle.sets.specs.Members.{capacity}
use Rattle.sets.proofs.Sets.{not-in-none, in-intersection, of-intersection-left, of-intersection-right, in-union-left, in-union-right, of-union, in-difference, of-difference, in-only, of-only, ext}
use Rattle.sets.proofs.Size.{size_mono, size-without}
use Rattle.sets.proofs.Smallest.{smallest-member}
use Rattle.circles.specs.Chains.{Chain, start, link}
use Rattle.circles.specs.Circles.{circle, first_circle}
use Rattle.circles.proofs.Chains.{chain-last}
use Rattle.circles.proofs.Growing.{in-circle, of-circle}

-- Of the members of s, those are reached that are not unreached, and of these those are on the frontier whose row was not looked at: who is reached is
-- joined to the first member, which is reached, and who is reached and not on the frontier has no neighbour that is unreached.
pub record Walks (rows : ℕ → ℕ) (s first unreached frontier : ℕ) : Type 0 where
  pub within : Sub unreached s
  pub subset : Sub frontier s
  pub apart : (v : ℕ) → In frontier v → In unreached v → ⊥
  pub begun : In unreached first → ⊥
  pub joined : (v : ℕ) → In s v → (In unreached v → ⊥) → Chain rows s first v
  pub done : (v w : ℕ) → In s v → (In unreached v → ⊥) → (In frontier v → ⊥) → In (rows v) w → In unreached w → ⊥

-- at first one member is reached, and it is on the frontier
pub walk_start : (rows : ℕ → ℕ) (s first : ℕ) → Walks rows s first (difference s (only first)) (difference s (difference s (only first)))
walk_start rows s first = record {
  within = record { at = λ v i. (of-difference s (only first) v i).0 };
  subset = record { at = λ v i. (of-difference s (difference s (only first)) v i).0 };
  apart = λ v i. (of-difference s (difference s (only first)) v i).1;
  begun = λ i. (of-difference s (only first) first i).1 (in-only first);
  joined = λ v i f. by_cases (ℕ_discrete v first) (λ e. rw e (start (rw e at i))) (λ g. absurd (f (in-difference s (only first) v i (λ o. g (of-only first v o)))));
  done = λ v w i f g. absurd (g (in-difference s (difference s (only first)) v i f));
}

module _ {rows : ℕ → ℕ} {s first unreached frontier : ℕ} (h : Walks rows s first unreached frontier) where
  -- a member leaves the frontier, and its neighbours that were unreached are on it
  module _ (u : ℕ) (i : In frontier u) where
    met : ℕ
    met = intersection (rows u) unreached

    unreached' : ℕ
    unreached' = difference unreached met

    frontier' : ℕ
    frontier' = union (difference frontier (only u)) met

    -- who is on the frontier now was on it, and is another, or was unreached
    was : (v : ℕ) → In frontier' v → In (difference frontier (only u)) v ⊎ In unreached v
    unfolding met frontier'
    was v j = go (of-union (difference frontier (only u)) met v j)
      where
        go : In (difference frontier (only u)) v ⊎ In met v → In (difference frontier (only u)) v ⊎ In unreached v
        go (inl k) = inl k
        go (inr k) = inr (of-intersection-right (rows u) unreached v k)

    apart' : (v : ℕ) → In frontier' v → In unreached' v → ⊥
    unfolding frontier' unreached'
    apart' v j k = let o = of-difference unreached met v k in go (of-union (difference frontier (only u)) met v j) o
      where
        go : In (difference frontier (only u)) v ⊎ In met v → In unreached v × (In met v → ⊥) → ⊥
        go (inl l) o = h.apart v (of-difference frontier (only u) v l).0 o.0
        go (inr l) o = o.1 l

    subset' : Sub frontier' s
    subset' = record { at = λ v j. go v (was v j) }
      where
        go : (v : ℕ) → In (difference frontier (only u)) v ⊎ In unreached v → In s v
        go v (inl k) = h.subset.at v (of-difference frontier (only u) v k).0
        go v (inr k) = h.within.at v k

    joined' : (v : ℕ) → In s v → (In unreached' v → ⊥) → Chain rows s first v
    unfolding met unreached'
    joined' v j f = by_cases (ℕ_discrete (bit unreached v) 1)
        (λ k. by_cases (ℕ_discrete (bit met v) 1)
        (λ p. link (h.joined u (h.subset.at u i) (h.apart u i)) (of-intersection-left (rows u) unreached v p) j)
        (λ p. absurd (f (in-difference unreached met v k p))))
        (h.joined v j)

    done' : (v w : ℕ) → In s v → (In unreached' v → ⊥) → (In frontier' v → ⊥) → In (rows v) w → In unreached' w → ⊥
    unfolding met frontier' unreached'
    done' v w j f g p k =
        let r = of-difference unreached met w k in
        by_cases (ℕ_discrete v u)
        (λ e. r.1 (in-intersection (rows u) unreached w (rw e at p) r.0))
        (λ e. h.done v w j
        (λ q. f (in-difference unreached met v q (λ m. g (in-union-right (difference frontier (only u)) met v m))))
        (λ q. g (in-union-left (difference frontier (only u)) met v (in-difference frontier (only u) v q (λ x. e (of-only u v x)))))
        p r.0)

    pub walk_more : Walks rows s first (difference unreached (intersection (rows u) unreached)) (union (difference frontier (only u)) (intersection (rows u) unreached))
    unfolding met frontier' unreached'
    walk_more = record {
      within = record { at = λ v j. h.within.at v (of-difference unreached met v j).0 };
      subset = subset';
      apart = apart';
      begun = λ j. h.begun (of-difference unreached met first j).0;
      joined = joined';
      done = done';
    }

    -- and fewer are on the frontier or unreached
    pub walk-less : size (union (union (difference frontier (only u)) (intersection (rows u) unreached)) (difference unreached (intersection (rows u) unreached))) < size (union frontier unreached)
    unfolding met frontier' unreached'
    walk-less = lt_of_le_of_lt (size_mono fewer) (size-without (union frontier unreached) u (in-union-left frontier unreached u i))
      where
        old : (v : ℕ) → In unreached v → In (difference (union frontier unreached) (only u)) v
        old v k = in-difference (union frontier unreached) (only u) v (in-union-right frontier unreached v k)
            (λ o. let e : v ≡ u = of-only u v o in h.apart u i (rw e at k))

        go : (v : ℕ) → In (difference frontier (only u)) v ⊎ In unreached v → In (difference (union frontier unreached) (only u)) v
        go v (inl k) = let o = of-difference frontier (only u) v k in in-difference (union frontier unreached) (only u) v (in-union-left frontier unreached v o.0) o.1
        go v (inr k) = old v k

        each : (v : ℕ) → In frontier' v ⊎ In unreached' v → In (difference (union frontier unreached) (only u)) v
        each v (inl k) = go v (was v k)
        each v (inr k) = old v (of-difference unreached met v k).0

        fewer : Sub (union frontier' unreached') (difference (union frontier unreached) (only u))
        fewer = record { at = λ v j. each v (of-union frontier' unreached' v j) }

  -- where none is on the frontier, the circle is reached
  pub walk_end : frontier ≡ 0 → difference s unreached ≡ circle rows s first
  walk_end e = ext _ _
      (λ v i. let r = of-difference s unreached v i in in-circle rows s first v (h.joined v r.0 r.1))
      (λ v i. let c = of-circle rows s first v i in in-difference s unreached v (chain-last c) (reached c))
    where
      reached : {v : ℕ} → Chain rows s first v → In unreached v → ⊥
      reached (start i) = h.begun
      reached (link {v} {w} c p i) = h.done v w (chain-last c) (reached c) (λ o. not-in-none v (rw e at o)) p

-- the circle of the smallest member, found from it
pub walk_first : {rows : ℕ → ℕ} {s unreached frontier : ℕ} → Walks rows s (smallest capacity s) unreached frontier → frontier ≡ 0
    → difference s unreached ≡ first_circle rows s
unfolding first_circle
walk_first h e = walk_end h e

-- where nobody is unreached, the set is the circle of its smallest member
pub walk-all : {rows : ℕ → ℕ} {s unreached frontier : ℕ} → Walks rows s (smallest capacity s) unreached frontier → unreached ≡ 0 → s ≡ first_circle rows s
unfolding first_circle
walk-all {rows} {s} h e = ext s _
    (λ v i. in-circle rows s (smallest capacity s) v (h.joined v i (λ j. not-in-none v (rw e at j))))
    (λ v i. chain-last (of-circle rows s (smallest capacity s) v i))

-- where the test finds members in a set, the smallest of them is one of them and below the capacity; where it finds none, there is none
pub some-open : {t u : ℕ} {empty : Bool} → t < 2 ^ capacity → empty ≡ eqb t 0 → empty ≡ false → u ≡ smallest capacity t → In t u × (u < capacity)
some-open {t} w e f g = rw g (smallest-member capacity t w (eqb-false t 0 (sym e ∙ f)))

pub none_open : {t : ℕ} {empty : Bool} → empty ≡ eqb t 0 → empty ≡ true → t ≡ 0
none_open {t} e f = eqb-true t 0 (sym e ∙ f)
