-- The cores of the rows of a span are those of the span, among the reviewed badges, also among those of them that are in some row.
use mathlib.Core.Path.{◌≡◌, refl, ap, ◌∙◌}
use mathlib.Core.List.{List}
use Prim.Native.Nat.{ℕ, ◌≤◌, ◌<◌}
use native.Mathlib.Nat.{le_refl, le_trans}
use native.Mathlib.Omega.{arith}
use lib.ListN.{take}
use Rattle.sets.specs.Sets.{In, Sub, full, intersection, size}
use Rattle.sets.specs.Members.{capacity}
use Rattle.sets.proofs.Sets.{some, in-intersection, of-intersection-left, of-intersection-right, of-full, sub_trans, sub-antisym}
use Rattle.sets.proofs.Size.{size_none}
use Rattle.sets.proofs.Tables.{tabulate-take, tabulate-same}
use Rattle.records.proofs.WithinLimits.{limits_of}
use Rattle.cores.specs.Graphs.{degree, Symmetric}
use Rattle.cores.specs.Cores.{core}
use Rattle.cores.specs.Rows.{graph, core_numbers}
use Rattle.cores.proofs.Degrees.{FewerPairs, pairs-refl}
use Rattle.cores.proofs.Cores.{core-sub, core-cohesive, core-largest, core_mono, core-same}
use Rattle.cores.proofs.Orders.{SameCores, number-among}
use Rattle.checks.proofs.TickRows.{Unites}
use Rattle.spans.specs.Spans.{SpanOfDay, span_neighbours, span_words}
use Rattle.spans.specs.Judging.{core_number_bytes}
use Rattle.spans.proofs.SpanRows.{in_span, of-span, span_set}

-- among badges of the day, the rows of a span have the cores of the span
pub rows-cores : (n : ℕ) (ws : List ℕ) (first last : ℕ) → n ≤ capacity → {base : ℕ} → Sub base (full n) → {rows : List ℕ} → rows ≡ span_words n ws first last
    → SameCores (graph rows) (span_neighbours n ws first last) base base
rows-cores n ws first last w {base} r e = record { at = λ j l. rw e (core-same base j fewer more) }
  where
    row : (u : ℕ) → In base u → graph (span_words n ws first last) u ≡ span_neighbours n ws first last u
    row u i = span_set n ws first last u w (of-full n u (r.at u i))

    fewer : FewerPairs base (graph (span_words n ws first last)) (span_neighbours n ws first last)
    fewer = record { pair = λ u v i j k. rw (row u i) at k }

    more : FewerPairs base (span_neighbours n ws first last) (graph (span_words n ws first last))
    more = record { pair = λ u v i j k. rw (row u i) k }

-- the core numbers found from a span's rows, among badges of the day, are those of the span
pub numbers-found : (n : ℕ) (ws : List ℕ) (base first last : ℕ) → n ≤ capacity → Sub base (full n) → take n (core_numbers (span_words n ws first last) base) ≡ core_number_bytes n ws base first last
unfolding core_numbers core_number_bytes
numbers-found n ws base first last w r = tabulate-take capacity n _ w ∙ tabulate-same n _ _ (λ u l. number-among (rows-cores n ws first last w r refl) u)

-- ---- the rows of a day are symmetric, and so the highest core by in-degrees is that by degrees

module _ {n T : ℕ} {ws : List ℕ} {first last : ℕ} (d : SpanOfDay n T ws first last) {rows : List ℕ} (e : rows ≡ span_words n ws first last) where
  few : n ≤ capacity
  few = (limits_of d.lent.limits).few

  -- the row of a badge of the day is that of its neighbours on the span
  row : (u : ℕ) → u < n → graph rows u ≡ span_neighbours n ws first last u
  row u l = rw e (span_set n ws first last u few l)

  -- a badge's neighbours have it for a neighbour
  back : (u v : ℕ) → u < n → v < n → In (graph rows u) v → In (graph rows v) u
  back u v l m i =
      let t = (of-span n ws first last u v (rw (row u l) at i)).1 in
      rw (row v m) (in_span n ws first last v u l (λ k p q. (d.lent.day.tick k (omega (arith, d.inside))).symmetric u v l m (t k p q)))

  -- so the rows are symmetric, among the badges of the day and of each set of them
  pub rows-symmetric : (base : ℕ) → Sub base (full n) → Symmetric (graph rows) base
  rows-symmetric base h = record { back = λ u v i j k. back u v (of-full n u (h.at u i)) (of-full n v (h.at v j)) k }

-- ---- the badges that are in some row

-- Every core of order 1 or more, of badges of a set, is among those of the set that are in some row.
module _ {n T : ℕ} {ws : List ℕ} {first last : ℕ} (d : SpanOfDay n T ws first last) {rows : List ℕ} (e : rows ≡ span_words n ws first last) {s : ℕ} (b : Unites n rows s) {base : ℕ} (r : Sub base (full n)) where
  member : (j : ℕ) → 1 ≤ j → (v : ℕ) → In (core (graph rows) base j) v → In (intersection s base) v
  unfolding degree
  member j l v i =
      let within = core-sub (graph rows) base j in
      let below : (u : ℕ) → In (core (graph rows) base j) u → u < n = λ u k. of-full n u (r.at u (within.at u k)) in
      let p : 1 ≤ size (intersection (graph rows v) (core (graph rows) base j)) = le_trans l ((core-cohesive (graph rows) base j).each v i) in
      let x = some (intersection (graph rows v) (core (graph rows) base j)) (λ z. omega (arith, ap size z, size_none)) in
      let u = below x.0 (of-intersection-right (graph rows v) (core (graph rows) base j) x.0 x.1) in
      let here = b.has x.0 v u (back d e v x.0 (below v i) u (of-intersection-left (graph rows v) (core (graph rows) base j) x.0 x.1)) in
      in-intersection s base v here (within.at v i)

  fewer-badges : Sub (intersection s base) base
  fewer-badges = record { at = λ u i. of-intersection-right s base u i }

  pub united-sub : {t : ℕ} → t ≡ intersection s base → Sub t (full n)
  united-sub f = rw f (sub_trans fewer-badges r)

  pub united-cores : {t : ℕ} → t ≡ intersection s base → SameCores (graph rows) (span_neighbours n ws first last) t base
  united-cores f = rw f (record {
    at = λ j l. sub-antisym _ _
        (core_mono (intersection s base) base j j fewer-badges (pairs-refl (intersection s base) (graph rows)) (le_refl j))
        (core-largest (graph rows) (intersection s base) j _ (record { at = member j l }) (core-cohesive (graph rows) base j))
        ∙ (rows-cores n ws first last (few d e) r e).at j l;
  })
