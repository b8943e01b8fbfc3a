-- The group statement as it was before cores were split holds of the maximal cores of a day that meet the thresholds.
use mathlib.Core.Path.{◌≡◌, refl}
use mathlib.Core.Bool.{true}
use mathlib.Core.List.Memᴰ
use mathlib.Core.List.{List}
use mathlib.Core.Logic.{◌↔◌}
use Prim.Native.Nat.{ℕ, suc, ◌≤◌, ◌<◌, suc-le-suc}
use native.Mathlib.Omega.{arith}
use lib.Dec.{leb}
use borrow.Author.Tests.{leb-true, le-leb, ltb-true, lt-ltb}
use Rattle.sets.specs.Sets.{Sub, full}
use Rattle.sets.proofs.Bools.{and_in, and_left, and_right}
use Rattle.sets.proofs.Sets.{sub-pos}
use Rattle.sets.proofs.Size.{size_mono}
use Rattle.sets.proofs.Concat.{in-concat, of-concat, in-keep, of-keep}
use Rattle.sets.proofs.Pairwise.{pairwise-two}
use Rattle.days.specs.Days.{LentDay}
use Rattle.cores.proofs.Cores.{core-sub, core-cohesive, core-largest}
use Rattle.spans.specs.Spans.{SpanOfDay}
use Rattle.spans.specs.Contacts.{OfOrder}
use Rattle.spans.specs.SpanCores.{SpanCore, Mem, core_on, has_core}
use Rattle.spans.specs.Reports.{is_maximal, is_group, groups_on, groups_from, groups_of}
use Rattle.thresholds.specs.declared.Thresholds.{Thresholds}
use Rattle.thresholds.specs.Ranges.{plain}
use Rattle.spans.specs.KeptGroups.{meets, kept}
use Rattle.spans.specs.GroupStatement.{Unsurpassed}
use Rattle.spans.specs.CoreStatement.{LargeEnough, Has, CoreStatement}
use Rattle.spans.proofs.OrderSets.{order-cohesive, cohesive-order, order-many}
use Rattle.spans.proofs.KeptRecords.{meets-in, meets-of, in_kept, of-kept, kept-pairwise, kept-all}
use Rattle.spans.proofs.Maximal.{score-on-le, maximal-of, maximal-in, group_of}
use Rattle.spans.proofs.GroupOrder.{earlier-apart, groups-earlier}

-- What is in the list: exactly the groups of the day's spans, with the members of their cores.
pub record Shown (n T : ℕ) (ws : List ℕ) (base : ℕ) (c : SpanCore) : Type 0 where
  pub rising : c.first ≤ c.last
  pub inside : c.last < T
  pub group : is_group n T ws base c.order c.first c.last ≡ true
  pub members : c.members ≡ core_on n ws base c.order c.first c.last

module _ (n T : ℕ) (ws : List ℕ) (base : ℕ) where
  pub of-groups : (c : SpanCore) → Mem c (groups_of n T ws base) → Shown n T ws base c
  unfolding groups_of groups_from groups_on
  of-groups c i =
      let x = of-concat T (groups_from n T ws base) i in
      let y = of-concat T _ x.2 in
      let z = of-keep (leb x.0 y.0) _ y.2 in
      let k = of-concat (suc n) _ z.1 in
      let g = of-keep (is_group n T ws base k.0 x.0 y.0) _ k.2 in
      let e = Memᴰ.eq_of_singleton g.1 in
      rw e (record { rising = leb-true _ _ z.0; inside = y.1; group = g.0; members = refl })

  -- no order is above the number of badges
  pub group-few : (k first last : ℕ) → first ≤ last → last < T → is_group n T ws base k first last ≡ true → k ≤ n
  group-few k first last m w g = omega (arith, (group_of n T ws base first last m w k g).0, score-on-le n ws base 0 first last)

  pub in-groups : (k first last : ℕ) → first ≤ last → last < T → is_group n T ws base k first last ≡ true
      → Mem (record { order = k; first = first; last = last; members = core_on n ws base k first last }) (groups_of n T ws base)
  unfolding groups_of groups_from groups_on
  in-groups k first last m w g =
      in-concat T (groups_from n T ws base) first (omega arith)
      (in-concat T _ last w (in-keep _ _ (le-leb _ _ m) (in-concat (suc n) _ k (suc-le-suc (group-few k first last m w g)) (in-keep _ _ g (Memᴰ.head refl)))))

-- a core of order k is there on a span of the day exactly when some set of order k is; it is such a set and holds every other
module _ {n T : ℕ} {ws : List ℕ} {base first last : ℕ} (d : SpanOfDay n T ws first last) (r : Sub base (full n)) (k : ℕ) where
  pub order-sub : (s : ℕ) → OfOrder n ws base k first last s → Sub s (core_on n ws base k first last)
  unfolding core_on
  order-sub s o = core-largest _ base k s o.within (order-cohesive d base r o)

  pub order-has : (s : ℕ) → OfOrder n ws base k first last s → has_core n ws base k first last ≡ true
  unfolding has_core
  order-has s o = lt-ltb _ _ (sub-pos (order-sub s o) o.some)

  pub has-order : has_core n ws base k first last ≡ true → OfOrder n ws base k first last (core_on n ws base k first last)
  unfolding has_core core_on
  has-order e = cohesive-order d base r (core-sub _ base k) (ltb-true _ _ e) (core-cohesive _ base k)

-- what a group's test says
pub group-parts : (n T : ℕ) (ws : List ℕ) (base k first last : ℕ) → is_group n T ws base k first last ≡ true → (1 ≤ k) × (has_core n ws base k first last ≡ true) × (is_maximal n T ws base k first last ≡ true)
unfolding is_group
group-parts n T ws base k first last e = (leb-true _ _ (and_left _ _ (and_left _ _ e)), and_right _ _ (and_left _ _ e), and_right _ _ e)

pub group-whole : (n T : ℕ) (ws : List ℕ) (base k first last : ℕ) → 1 ≤ k → has_core n ws base k first last ≡ true → is_maximal n T ws base k first last ≡ true → is_group n T ws base k first last ≡ true
unfolding is_group
group-whole n T ws base k first last l h m = and_in _ _ (and_in _ _ (le-leb _ _ l) h) m

-- on a day, a group's order and span are unsurpassed, and what is unsurpassed is a group's
module _ {n T : ℕ} {ws : List ℕ} {base : ℕ} (lent : LentDay n T ws) (r : Sub base (full n)) where
  span : {first last : ℕ} → first ≤ last → last < T → SpanOfDay n T ws first last
  span m w = record { lent = lent; rising = m; inside = w }

  pub unsurpassed-of : (k first last : ℕ) → first ≤ last → last < T → is_group n T ws base k first last ≡ true → Unsurpassed n T ws base k first last
  unsurpassed-of k first last m w g = let p = group-parts n T ws base k first last g in record {
    some = (core_on n ws base k first last, has-order (span m w) r k p.1);
    none = λ k' first' last' s a b c e o.
        maximal-of n T ws base k first last p.2 k' first' last' (omega arith) e a b c (order-has (span (omega arith) e) r k' s o);
  }

  pub unsurpassed-in : (k first last : ℕ) → 1 ≤ k → first ≤ last → last < T → Unsurpassed n T ws base k first last → is_group n T ws base k first last ≡ true
  unsurpassed-in k first last l m w u = group-whole n T ws base k first last l (order-has (span m w) r k u.some.0 u.some.1)
      (maximal-in n T ws base k first last (λ k' first' last' p q a b c h. u.none k' first' last' (core_on n ws base k' first' last') a b c q (has-order (span p q) r k' h)))

-- what a record of the list shows, order and span unsurpassed and enough for the thresholds, where it meets them; and such a record meets them
module _ {n T : ℕ} {ws : List ℕ} {base : ℕ} (lent : LentDay n T ws) (r : Sub base (full n)) (least : Thresholds) where
  shown-order : {c : SpanCore} → Shown n T ws base c → OfOrder n ws base c.order c.first c.last c.members
  shown-order {c} s = rw s.members (has-order (span lent r s.rising s.inside) r c.order (group-parts n T ws base _ _ _ s.group).1)

  passes_of : (c : SpanCore) → Shown n T ws base c → meets least c ≡ true → Unsurpassed n T ws base c.order c.first c.last × LargeEnough n ws base least c.order c.first c.last
  passes_of c s e =
      let m = meets-of least c e in
      (unsurpassed-of lent r c.order c.first c.last s.rising s.inside s.group, record { long = m.0; high = m.1; many = (c.members, shown-order s, m.2) })

  passes-in : (k first last : ℕ) → first ≤ last → last < T → LargeEnough n ws base least k first last
      → meets least (record { order = k; first = first; last = last; members = core_on n ws base k first last }) ≡ true
  passes-in k first last m w e =
      let s = e.many in
      meets-in least _ e.long e.high (omega (arith, s.2, size_mono (order-sub (span lent r m w) r k s.0 s.1)))

-- The statement.
pub groups-stated : (n T : ℕ) (ws : List ℕ) (base : ℕ) (least : Thresholds) → LentDay n T ws → Sub base (full n) → CoreStatement n T ws base least (kept least (groups_of n T ws base))
groups-stated n T ws base least lent r = record {
  order = λ c i. (group-parts n T ws base _ _ _ (shown c i).group).0;
  span = λ c i. ((shown c i).rising, (shown c i).inside);
  exactly = λ k first last l m w. (
    λ x. let e = passes_of lent r least x.0 (shown x.0 x.1) (of-kept least _ x.1).1 in let h = x.2 in rw (h.its_order, h.its_first, h.its_last) at e,
    λ u. (
      record { order = k; first = first; last = last; members = core_on n ws base k first last },
      in_kept least _ (in-groups n T ws base k first last m w (unsurpassed-in lent r k first last l m w u.0)) (passes-in lent r least k first last m w u.1),
      record { its_order = refl; its_first = refl; its_last = refl },
    ),
  );
  once = λ xs ys zs c d e h. earlier-apart (pairwise-two xs ys zs c d (rw e at (kept-pairwise least _ (groups-earlier n T ws base)))) h.its_first h.its_last;
  members = λ c i. shown-order lent r least (shown c i);
  largest = λ c t i o. let s = shown c i in rw s.members (order-sub (span lent r s.rising s.inside) r c.order t o);
}
  where
    shown : (c : SpanCore) → Mem c (kept least (groups_of n T ws base)) → Shown n T ws base c
    shown c i = of-groups n T ws base c (of-kept least (groups_of n T ws base) i).0

-- "With 1, 1 and 2 it is the plain report": every span has a tick, every group an order of 1 or more, and so two members or more.
pub kept-plain : {n T : ℕ} {ws : List ℕ} {base : ℕ} → LentDay n T ws → Sub base (full n) → kept plain (groups_of n T ws base) ≡ groups_of n T ws base
kept-plain {n} {T} {ws} {base} lent r = kept-all plain (groups_of n T ws base) (λ c i.
    let s = of-groups n T ws base c i in
    let p = group-parts n T ws base _ _ _ s.group in
    meets-in plain c (omega (arith, s.rising)) p.0 (omega (arith, p.0, order-many (shown-order lent r plain s))))

pub cores-stated : {n T : ℕ} {ws : List ℕ} {base : ℕ} → LentDay n T ws → Sub base (full n) → CoreStatement n T ws base plain (groups_of n T ws base)
cores-stated {n} {T} {ws} {base} lent r = rw (kept-plain lent r) at (groups-stated n T ws base plain lent r)

-- So with 1, 1 and 2 the statement is demand 3's own: a record is there exactly when its order and span are unsurpassed.
pub plain-exactly : {n T : ℕ} {ws : List ℕ} {base : ℕ} {groups : List SpanCore} → CoreStatement n T ws base plain groups
    → (k first last : ℕ) → 1 ≤ k → first ≤ last → last < T → ((c : SpanCore) × Mem c groups × Has c k first last) ↔ Unsurpassed n T ws base k first last
plain-exactly s k first last l m w =
    let e = s.exactly k first last l m w in (
      λ x. (e.0 x).0,
      λ u. e.1 (u, record { long = omega arith; high = l; many = (u.some.0, u.some.1, omega (arith, order-many u.some.1)) }),
    )
