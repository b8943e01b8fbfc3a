-- The circles of a cohesive set: a member has all its neighbours in its circle, so a circle is as cohesive as the set, and a circle of a core of
-- order k has at least k + 1 members.
use mathlib.Core.Path.{◌≡◌}
use Prim.Native.Nat.{ℕ, suc, ◌*◌, ◌^◌, ◌≤◌, ◌<◌}
use native.Mathlib.Nat.{le_trans}
use native.Mathlib.Omega.{arith}
use lib.ListN.{length}
use Rattle.sets.specs.Sets.{In, Sub, intersection, difference, only, size}
use Rattle.sets.specs.Members.{capacity}
use Rattle.sets.proofs.Sets.{some, in-intersection, of-intersection-left, of-intersection-right, in-difference, of-only}
use Rattle.sets.proofs.Size.{size_mono, size-without}
use Rattle.cores.specs.Graphs.{degree, Cohesive, Symmetric}
use Rattle.circles.specs.Chains.{start, link, IsCircle}
use Rattle.circles.specs.Circles.{circles}
use Rattle.circles.proofs.CircleLists.{circles-are, circles-many}

-- no member of s is its own neighbour
pub record Irreflexive (rows : ℕ → ℕ) (s : ℕ) : Type 0 where
  pub apart : (u : ℕ) → In s u → In (rows u) u → ⊥

module _ {rows : ℕ → ℕ} {s c : ℕ} (k : IsCircle rows s c) where
  -- a neighbour in the set is one in the circle
  pub circle-neighbours : (u : ℕ) → In c u → Sub (intersection (rows u) s) (intersection (rows u) c)
  circle-neighbours u i = record {
    at = λ v j.
        let p = of-intersection-left (rows u) s v j in
        in-intersection (rows u) c v p (k.closed u v i (link (start (k.within.at u i)) p (of-intersection-right (rows u) s v j)));
  }

  -- so the degree is the same
  pub circle-degree : (u : ℕ) → In c u → degree rows s u ≤ degree rows c u
  unfolding degree
  circle-degree u i = size_mono (circle-neighbours u i)

  pub circle-cohesive : (order : ℕ) → Cohesive rows order s → Cohesive rows order c
  circle-cohesive order h = record { each = λ u i. le_trans (h.each u (k.within.at u i)) (circle-degree u i) }

  -- and, with the member itself, there is one member more
  pub circle-size : (order : ℕ) → Irreflexive rows s → Cohesive rows order s → order < size c
  unfolding degree
  circle-size order x h =
      let m = some c (λ e. omega (arith, k.some)) in
      let u = m.0 in
      let others : Sub (intersection (rows u) c) (difference c (only u)) = record {
        at = λ v j. in-difference c (only u) v (of-intersection-right (rows u) c v j) (λ o.
            let e : v ≡ u = of-only u v o in
            let p = of-intersection-left (rows u) c v j in
            x.apart u (k.within.at u m.1) (rw e at p));
      } in
      omega (arith, (circle-cohesive order h).each u m.1, size_mono others, size-without c u m.1)

-- So a set of order k has at most one circle for each k + 1 members.
pub circles-by-order : (rows : ℕ → ℕ) (order s : ℕ) → s < 2 ^ capacity → Symmetric rows s → Irreflexive rows s → Cohesive rows order s → suc order * length (circles rows s) ≤ size s
circles-by-order rows order s w y x h = circles-many rows (suc order) s w (λ c i. circle-size (circles-are rows s w y c i) order x h)
