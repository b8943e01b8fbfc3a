-- The records of a core count as one group: before least members is applied, a core's circles together are exactly that core, and the groups of the
-- records are the cores. With 1, 1 and 2 every record is kept; with more, a core is shown by just the circles that pass.
use mathlib.Core.Path.{◌≡◌, refl, sym, ap, subst, ◌∙◌}
use mathlib.Core.Bool.{true, false}
use mathlib.Core.List.{List, [], ◌∷◌, ◌++◌, map, Memᴰ}
use mathlib.Core.Logic.{◌↔◌}
use Prim.Native.Nat.{ℕ, ◌≤◌, ◌<◌}
use native.Mathlib.Omega.{arith}
use Rattle.sets.specs.Sets.{Sub, union, full, size}
use Rattle.sets.specs.Tables.{Pairwise, nothing, followed}
use Rattle.sets.proofs.Bools.{to-false}
use Rattle.sets.proofs.Sets.{union-none}
use Rattle.days.specs.Days.{LentDay}
use Rattle.circles.specs.Circles.{together}
use Rattle.circles.proofs.CircleLists.{circles-together}
use Rattle.circles.proofs.CohesiveCircles.{circle-size}
use Rattle.thresholds.specs.declared.Thresholds.{Thresholds}
use Rattle.thresholds.specs.Ranges.{plain}
use Rattle.spans.specs.Spans.{span_ticks, span_neighbours}
use Rattle.spans.specs.SpanCores.{SpanCore, Mem}
use Rattle.spans.specs.Reports.{same, groups_of}
use Rattle.spans.specs.KeptGroups.{meets, kept}
use Rattle.spans.specs.CircleRecords.{with_members, circles_of, records_of, circle_records, shown_records}
use Rattle.spans.specs.Grouping.{join_to, grouped}
use Rattle.spans.specs.GroupStatement.{CircleOn, GroupStatement}
use Rattle.spans.specs.CoreStatement.{Has, CoreStatement}
use Rattle.spans.proofs.OrderSets.{order-cohesive}
use Rattle.spans.proofs.SpanCircles.{span-irreflexive}
use Rattle.spans.proofs.Maximal.{same_in, same_of}
use Rattle.spans.proofs.KeptRecords.{meets-in, meets-of, in_kept, of-kept, kept-all, kept-pairwise}
use Rattle.spans.proofs.KeptCores.{kept-enough}
use Rattle.spans.proofs.GroupOrder.{Earlier, earlier-apart, groups-earlier}
use Rattle.spans.proofs.GroupLists.{groups-stated, kept-plain, cores-stated}
use Rattle.spans.proofs.RecordLists.{in-records-of, in-circle-records, of-circle-records}
use Rattle.spans.proofs.CircleStated.{core-span, core-inside, core-small, core-circle, on-circle, statement-unique, report-stated}

-- ---- the groups of any records

-- a record before groups of other cores, and before a group of its own core
join-other : (c : SpanCore) (gs : List SpanCore) → ((d : SpanCore) → Mem d gs → same c.order c.first c.last d.order d.first d.last ≡ false) → join_to c gs ≡ c ∷ gs
unfolding join_to
join-other c [] h = refl
join-other c (d ∷ gs) h = rw (h d (Memᴰ.head refl), join_to)

join-same : (c : SpanCore) (s t : ℕ) (gs : List SpanCore) → join_to (with_members c s) (with_members c t ∷ gs) ≡ with_members c (union s t) ∷ gs
unfolding join_to
join-same c s t gs = rw (same_in c.order c.first c.last, join_to)

-- the records of one core before those of others are one group, whose members are those of all together
one-group : (c : SpanCore) (s : ℕ) (ss : List ℕ) (rest gs : List SpanCore) → grouped rest ≡ gs
    → ((d : SpanCore) → Mem d gs → same c.order c.first c.last d.order d.first d.last ≡ false)
    → grouped (map (with_members c) (s ∷ ss) ++ rest) ≡ with_members c (together (s ∷ ss)) ∷ gs
unfolding grouped together
one-group c s [] rest gs e h = rw (e, union-none s) (join-other (with_members c s) gs h)
one-group c s (t ∷ ss) rest gs e h = ap (join_to (with_members c s)) (one-group c t ss rest gs e h) ∙ join-same c s (together (t ∷ ss)) gs

-- cores one after the other differ in their ticks
earlier-other : (c d : SpanCore) → Earlier c d → same c.order c.first c.last d.order d.first d.last ≡ false
earlier-other c d h = to-false _ (λ e. let s = same_of c.order c.first c.last d.order d.first d.last e in earlier-apart h (omega (arith, s.1)) (omega (arith, s.2)))

-- where each core has members, and they are those of its circles together, the groups of the records are the cores
grouped-cores : (n : ℕ) (ws : List ℕ) (cs : List SpanCore) → ((c : SpanCore) → Mem c cs → (0 < c.members) × (together (circles_of n ws c) ≡ c.members)) → Pairwise Earlier cs
    → grouped (circle_records n ws cs) ≡ cs
unfolding circle_records records_of grouped together
grouped-cores n ws [] h nothing = refl
grouped-cores n ws (c ∷ cs) h (followed f p) = go (circles_of n ws c) (h c (Memᴰ.head refl)).1 (grouped-cores n ws cs (λ d i. h d (Memᴰ.tail i)) p)
  where
    go : (ss : List ℕ) → together ss ≡ c.members → grouped (circle_records n ws cs) ≡ cs → grouped (map (with_members c) ss ++ circle_records n ws cs) ≡ c ∷ cs
    go [] e ih = absurd (omega (arith, (h c (Memᴰ.head refl)).0))
    go (s ∷ ss) e ih = one-group c s ss _ _ ih (λ d i. earlier-other c d (f d i)) ∙ ap (λ (m : ℕ). with_members c m ∷ cs) e

-- ---- the records of any cores of which the statement of whole cores holds

module _ {n T : ℕ} {ws : List ℕ} {base : ℕ} {least : Thresholds} {groups : List SpanCore} (lent : LentDay n T ws) (r : Sub base (full n)) (g : CoreStatement n T ws base least groups) where
  -- "Before least members is applied, a core's circles together are exactly that core."
  pub core-together : (c : SpanCore) → Mem c groups → together (circles_of n ws c) ≡ c.members
  unfolding circles_of
  core-together c i = circles-together (span_neighbours n ws c.first c.last) c.members (core-small lent r g c i)

  -- a circle of a core of order k has at least k + 1 members
  pub core-circle-size : (c : SpanCore) → Mem c groups → (s : ℕ) → Memᴰ s (circles_of n ws c) → c.order < size s
  core-circle-size c i s j =
      let d = core-span lent r g c i in
      circle-size (core-circle lent r g c i s j) c.order (span-irreflexive d c.members (core-inside lent r g c i)) (order-cohesive d base r (g.members c i))

  -- "a core's records then count as one group, whose members are those of its circles together": the groups of the records are the cores
  pub records-grouped : Pairwise Earlier groups → grouped (circle_records n ws groups) ≡ groups
  records-grouped p = grouped-cores n ws groups (λ c i. ((g.members c i).some, core-together c i)) p

-- ---- the records of a report

module _ {n T : ℕ} {ws : List ℕ} {base : ℕ} (lent : LentDay n T ws) (r : Sub base (full n)) where
  -- where least members is at most 2, it asks nothing of a circle: the cores that meet the thresholds are shown by all their records;
  shown-whole : (least : Thresholds) → least.members ≤ 2 → shown_records n T ws base least ≡ circle_records n ws (kept least (groups_of n T ws base))
  unfolding shown_records
  shown-whole least two =
      let g = cores-stated lent r in
      sym (kept-enough least n ws (groups_of n T ws base) (core-small lent r g)) ∙ kept-all least _ (λ d i.
      let x = of-circle-records n ws (kept least (groups_of n T ws base)) i in
      let c = x.0 in
      let k = of-kept least (groups_of n T ws base) x.1 in
      let m = meets-of least c k.1 in
      let many : least.members ≤ size d.members = omega (arith, core-circle-size lent r g c k.0 d.members x.2.circle, g.order c k.0) in
      subst (λ (z : SpanCore). meets least z ≡ true) x.2.same (meets-in least (with_members c d.members) m.0 m.1 many))

  -- "With 1, 1 and 2 it is the plain report": every record is kept.
  pub plain-all : shown_records n T ws base plain ≡ circle_records n ws (groups_of n T ws base)
  plain-all = shown-whole plain (omega arith) ∙ ap (circle_records n ws) (kept-plain lent r)

  -- So where it is at most 2, the statement of whole cores holds of the groups of any records of which the group statement holds.
  pub grouped-stated : (least : Thresholds) → least.members ≤ 2 → (records : List SpanCore) → GroupStatement n T ws base least records → CoreStatement n T ws base least (grouped records)
  grouped-stated least two records x =
      let g = groups-stated n T ws base least lent r in
      let e : records ≡ circle_records n ws (kept least (groups_of n T ws base)) = statement-unique records _ x (report-stated lent r) ∙ shown-whole least two in
      let f : grouped records ≡ kept least (groups_of n T ws base) = ap grouped e ∙ records-grouped lent r g (kept-pairwise least _ (groups-earlier n T ws base)) in
      rw f g

  module _ (least : Thresholds) (c : SpanCore) (i : Mem c (groups_of n T ws base)) where
    -- a record of a core's order and span shows one of its circles that has members enough
    record-of-core : (d : SpanCore) → Mem d (shown_records n T ws base least) → Has d c.order c.first c.last → Memᴰ d.members (circles_of n ws c) × (least.members ≤ size d.members)
    record-of-core d j k =
        let x : GroupStatement n T ws base least (shown_records n T ws base least) = report-stated lent r in
        let s = x.span d j in
        let p = (x.exactly d.order d.first d.last d.members (x.order d j) s.0 s.1).0 j in
        let o : CircleOn n ws base c.order c.first c.last d.members = rw (k.its_order, k.its_first, k.its_last) at p.circle in
        (on-circle lent r (cores-stated lent r) c i d.members o, p.many)

    -- "under least members it is shown by just the circles that pass,"
    pub shown_by : least.ticks ≤ span_ticks c.first c.last → least.order ≤ c.order
        → (s : ℕ) → Mem (with_members c s) (shown_records n T ws base least) ↔ (Memᴰ s (circles_of n ws c) × (least.members ≤ size s))
    unfolding shown_records
    shown_by l h s = (
      λ j. record-of-core (with_members c s) j (record { its_order = refl; its_first = refl; its_last = refl }),
      λ q. in_kept least _ (in-circle-records n ws _ i (in-records-of n ws c s q.0)) (meets-in least (with_members c s) l h q.1),
    )

    -- "and not at all where none does"
    pub not-shown : ((s : ℕ) → Memᴰ s (circles_of n ws c) → size s < least.members) → (d : SpanCore) → Mem d (shown_records n T ws base least) → Has d c.order c.first c.last → ⊥
    not-shown h d j k = let o = record-of-core d j k in omega (arith, h d.members o.0, o.1)
