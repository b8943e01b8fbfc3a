-- Laws of the sets of an order on a span, which speak of contacts alone: they are the cohesive sets of the span's intersection graph.
use mathlib.Core.Path.{◌≡◌, ap}
use mathlib.Core.List.{List}
use Prim.Native.Nat.{ℕ, suc, ◌≤◌, ◌<◌}
use native.Mathlib.Nat.{le_refl}
use native.Mathlib.Omega.{arith}
use lib.Dec.{eqb}
use borrow.Author.Tests.{eqb-true, eq-eqb}
use Rattle.sets.specs.Sets.{In, Sub, intersection, difference, only, size, full}
use Rattle.sets.proofs.Bools.{and_in, and_left, and_right, isnt-in, isnt-of}
use Rattle.sets.proofs.Sets.{in-filter, of-filter, in-intersection, of-intersection-left, of-intersection-right, some, in-difference, of-only, of-full, sub_trans, ext}
use Rattle.sets.proofs.Size.{size_mono, size-without}
use Rattle.cores.specs.Graphs.{degree, Cohesive}
use Rattle.spans.specs.Spans.{SpanOfDay, span_neighbours}
use Rattle.spans.specs.Contacts.{fellows, OfOrder}
use Rattle.spans.proofs.SpanRows.{throughout-of, throughout-in, in_span, of-span}

module _ {n T : ℕ} {ws : List ℕ} {first last : ℕ} (d : SpanOfDay n T ws first last) (s : ℕ) (w : Sub s (full n)) where
  -- no badge is its own neighbour on a span
  pub apart : (u : ℕ) → u < n → In (span_neighbours n ws first last u) u → ⊥
  apart u l i = (d.lent.day.tick first (omega (arith, d.rising, d.inside))).irreflexive u l ((of-span n ws first last u u i).1 first (le_refl first) d.rising)

  -- the fellow members of a badge are its neighbours in the set,
  pub fellows-are : (u : ℕ) → u < n → fellows n ws first last s u ≡ intersection (span_neighbours n ws first last u) s
  unfolding fellows
  fellows-are u l = ext _ _
      (λ v i.
      let r = of-filter _ s v i in
      in-intersection _ s v (in_span n ws first last u v (of-full n v (w.at v r.0)) (throughout-of n ws first last u v (and_right _ _ r.1))) r.0)
      (λ v i.
      let j = of-intersection-left (span_neighbours n ws first last u) s v i in
      in-filter _ s v (of-intersection-right (span_neighbours n ws first last u) s v i)
      (and_in _ _ (isnt-in (eqb v u) (λ e. let f : v ≡ u = eqb-true v u e in apart u l (rw f at j))) (throughout-in n ws first last u v (of-span n ws first last u v j).1)))

  -- so there are as many of them as its degree
  pub fellows-degree : (u : ℕ) → In s u → size (fellows n ws first last s u) ≡ degree (span_neighbours n ws first last) s u
  unfolding degree
  fellows-degree u i = ap size (fellows-are u (of-full n u (w.at u i)))

-- A set of order k on a span is a non-empty set in which every degree is at least k.
module _ {n T : ℕ} {ws : List ℕ} {first last : ℕ} (d : SpanOfDay n T ws first last) (base : ℕ) (w : Sub base (full n)) where
  pub order-cohesive : {k s : ℕ} → OfOrder n ws base k first last s → Cohesive (span_neighbours n ws first last) k s
  order-cohesive {k} {s} o = record { each = λ u i. rw (fellows-degree d s (sub_trans o.within w) u i) at (o.each u i) }

  pub cohesive-order : {k s : ℕ} → Sub s base → 0 < s → Cohesive (span_neighbours n ws first last) k s → OfOrder n ws base k first last s
  cohesive-order {k} {s} h p c = record { within = h; some = p; each = λ u i. rw (fellows-degree d s (sub_trans h w) u i) (c.each u i) }

-- A set of order k has more than k members: one, and its fellow members.
pub order-many : {n : ℕ} {ws : List ℕ} {base k first last s : ℕ} → OfOrder n ws base k first last s → suc k ≤ size s
unfolding fellows
order-many {n} {ws} {base} {k} {first} {last} {s} o =
    let u = some s (λ e. omega (arith, o.some)) in
    let others : Sub (fellows n ws first last s u.0) (difference s (only u.0)) = record {
      at = λ v i.
          let r = of-filter _ s v i in
          in-difference s (only u.0) v r.0 (λ j. isnt-of (eqb v u.0) (and_left _ _ r.1) (eq-eqb v u.0 (of-only u.0 v j)));
    } in
    omega (arith, o.each u.0 u.1, size_mono others, size-without s u.0 u.1)
