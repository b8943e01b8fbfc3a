-- The group statement holds of the records of any list of cores of which the statement of whole cores holds, and which stands by first tick and then
-- last tick; and it leaves no choice of the list of records. So it holds of a report's records.
use mathlib.Core.Path.{◌≡◌, refl, sym, subst}
use mathlib.Core.List.{List, Memᴰ}
use Prim.Native.Nat.{ℕ, ◌^◌, ◌≤◌, ◌<◌}
use native.Mathlib.Omega.{arith}
use Rattle.sets.specs.Sets.{Sub, full, smallest}
use Rattle.sets.specs.Members.{capacity}
use Rattle.sets.specs.Tables.{Pairwise}
use Rattle.sets.proofs.Sets.{sub_trans, sub-antisym}
use Rattle.sets.proofs.Pairwise.{pairwise-two, pairwise-same}
use Rattle.days.specs.Days.{LentDay}
use Rattle.circles.specs.Chains.{IsCircle}
use Rattle.circles.proofs.CircleLists.{circles-are, circles-all}
use Rattle.thresholds.specs.declared.Thresholds.{Thresholds}
use Rattle.thresholds.specs.Ranges.{plain}
use Rattle.spans.specs.Spans.{SpanOfDay, span_neighbours}
use Rattle.spans.specs.Contacts.{fellows}
use Rattle.spans.specs.SpanCores.{SpanCore, Mem}
use Rattle.spans.specs.KeptGroups.{kept}
use Rattle.spans.specs.CircleRecords.{with_members, circles_of, circle_records, shown_records}
use Rattle.spans.specs.GroupStatement.{Unsurpassed, CircleOn, Reportable, Before, by_first, by_last, by_member, GroupStatement}
use Rattle.spans.specs.CoreStatement.{Has, CoreStatement}
use Rattle.spans.proofs.SpanCircles.{day-small, span-symmetric, circle-fellows, fellows-circle}
use Rattle.spans.proofs.KeptRecords.{meets-in, meets-of, in_kept, of-kept, kept-pairwise}
use Rattle.spans.proofs.GroupOrder.{Earlier, groups-earlier}
use Rattle.spans.proofs.GroupLists.{cores-stated, plain-exactly}
use Rattle.spans.proofs.RecordLists.{RecordOf, in-records-of, in-circle-records, of-circle-records, circle-records-sorted}

-- coming before, part by part; no two records each come before the other
before-parts : {c d : SpanCore} → Before c d
    → (c.first ≤ d.first) × (c.first ≡ d.first → (c.last ≤ d.last) × (c.last ≡ d.last → smallest capacity c.members < smallest capacity d.members))
before-parts (by_first h) = (omega arith, λ e. absurd (omega arith))
before-parts (by_last e h) = (omega arith, λ e'. (omega arith, λ f. absurd (omega arith)))
before-parts (by_member e f h) = (omega arith, λ e'. (omega arith, λ f'. h))

before-asymmetric : {c d : SpanCore} → Before c d → Before d c → ⊥
before-asymmetric {c} {d} p q =
    let x = before-parts p in
    let y = before-parts q in
    let e : c.first ≡ d.first = omega (arith, x.0, y.0) in
    let z = x.1 e in
    let w = y.1 (sym e) in
    let f : c.last ≡ d.last = omega (arith, z.0, w.0) in
    omega (arith, z.1 f, w.1 (sym f))

-- a record of a sorted list is not one that follows it
before-other : {c d : SpanCore} → Before c d → c ≡ d → ⊥
before-other {c} {d} b e = let x : Before c c = subst (λ (z : SpanCore). Before c z) (sym e) b in before-asymmetric x x

module _ {n T : ℕ} {ws : List ℕ} {base : ℕ} {least : Thresholds} {groups : List SpanCore} (lent : LentDay n T ws) (r : Sub base (full n)) (g : CoreStatement n T ws base least groups) where
  -- a core of the list: its span, its members, and that those are the largest set of its order
  pub core-span : (c : SpanCore) → Mem c groups → SpanOfDay n T ws c.first c.last
  core-span c i = record { lent = lent; rising = (g.span c i).0; inside = (g.span c i).1 }

  pub core-inside : (c : SpanCore) → Mem c groups → Sub c.members (full n)
  core-inside c i = sub_trans (g.members c i).within r

  pub core-small : (c : SpanCore) → Mem c groups → c.members < 2 ^ capacity
  core-small c i = day-small lent c.members (core-inside c i)

  pub core-circle : (c : SpanCore) → Mem c groups → (s : ℕ) → Memᴰ s (circles_of n ws c) → IsCircle (span_neighbours n ws c.first c.last) c.members s
  unfolding circles_of
  core-circle c i = circles-are (span_neighbours n ws c.first c.last) c.members (core-small c i) (span-symmetric (core-span c i) c.members (core-inside c i))

  -- its circles are those of its list, and no others
  circle-on : (c : SpanCore) → Mem c groups → (s : ℕ) → Memᴰ s (circles_of n ws c) → CircleOn n ws base c.order c.first c.last s
  circle-on c i s j = record {
    group = c.members;
    largest = record { order = g.members c i; holds = λ t. g.largest c t i };
    circle = circle-fellows (core-span c i) c.members (core-inside c i) (core-circle c i s j);
  }

  pub on-circle : (c : SpanCore) → Mem c groups → (s : ℕ) → CircleOn n ws base c.order c.first c.last s → Memᴰ s (circles_of n ws c)
  unfolding circles_of
  on-circle c i s k =
      let e : k.group ≡ c.members = sub-antisym _ _ (g.largest c k.group i k.largest.order) (k.largest.holds c.members (g.members c i)) in
      let f : IsCircle (fellows n ws c.first c.last c.members) c.members s = rw e at k.circle in
      circles-all (span_neighbours n ws c.first c.last) c.members s (core-small c i) (span-symmetric (core-span c i) c.members (core-inside c i)) (fellows-circle (core-span c i) c.members (core-inside c i) f)

module _ {n T : ℕ} {ws : List ℕ} {base : ℕ} {groups : List SpanCore} (lent : LentDay n T ws) (r : Sub base (full n)) (g : CoreStatement n T ws base plain groups) (least : Thresholds) where
  -- a record that is kept is one to be there,
  reportable-of : (d : SpanCore) → Mem d (kept least (circle_records n ws groups)) → Reportable n T ws base least d.order d.first d.last d.members
  reportable-of d i =
      let k = of-kept least (circle_records n ws groups) i in
      let m = meets-of least d k.1 in
      let x = of-circle-records n ws groups k.0 in
      let c = x.0 in
      let s = g.span c x.1 in
      let u = (plain-exactly g c.order c.first c.last (g.order c x.1) s.0 s.1).0 (c, x.1, record { its_order = refl; its_first = refl; its_last = refl }) in
      record {
        unsurpassed = subst (λ (z : SpanCore). Unsurpassed n T ws base z.order z.first z.last) x.2.same u;
        long = m.0;
        high = m.1;
        circle = subst (λ (z : SpanCore). CircleOn n ws base z.order z.first z.last z.members) x.2.same (circle-on lent r g c x.1 d.members x.2.circle);
        many = m.2;
      }

  -- and one to be there is kept
  reportable-in : (k first last s : ℕ) → 1 ≤ k → first ≤ last → last < T → Reportable n T ws base least k first last s
      → Mem (record { order = k; first = first; last = last; members = s }) (kept least (circle_records n ws groups))
  reportable-in k first last s l m v p =
      in_kept least (circle_records n ws groups) (go ((plain-exactly g k first last l m v).1 p.unsurpassed)) (meets-in least _ p.long p.high p.many)
    where
      go : ((c : SpanCore) × Mem c groups × Has c k first last) → Mem (record { order = k; first = first; last = last; members = s }) (circle_records n ws groups)
      go (c, i, h) =
          let o : CircleOn n ws base c.order c.first c.last s = rw (h.its_order, h.its_first, h.its_last) p.circle in
          let j : Mem (with_members c s) (circle_records n ws groups) = in-circle-records n ws groups i (in-records-of n ws c s (on-circle lent r g c i s o)) in
          rw (h.its_order, h.its_first, h.its_last) at j

  -- The statement holds of the records that are kept.
  pub circles-stated : Pairwise Earlier groups → GroupStatement n T ws base least (kept least (circle_records n ws groups))
  circles-stated p =
      let sorted = kept-pairwise least (circle_records n ws groups) (circle-records-sorted n ws groups (core-small lent r g) p) in
      record {
        order = λ d i. let x = core-of d i in subst (λ (z : SpanCore). 1 ≤ z.order) x.2.same (g.order x.0 x.1);
        span = λ d i. let x = core-of d i in subst (λ (z : SpanCore). (z.first ≤ z.last) × (z.last < T)) x.2.same (g.span x.0 x.1);
        exactly = λ k first last s l m v. (λ i. reportable-of _ i, reportable-in k first last s l m v);
        once = λ xs ys zs c d e. before-other (pairwise-two xs ys zs c d (rw e at sorted));
        sorted = sorted;
      }
    where
      core-of : (d : SpanCore) → Mem d (kept least (circle_records n ws groups)) → (c : SpanCore) × Mem c groups × RecordOf n ws c d
      core-of d i = of-circle-records n ws groups (of-kept least (circle_records n ws groups) i).0

-- The statement leaves no choice: two lists of records of which it holds are equal.
module _ {n T : ℕ} {ws : List ℕ} {base : ℕ} {least : Thresholds} where
  across : (xs ys : List SpanCore) → GroupStatement n T ws base least xs → GroupStatement n T ws base least ys → (c : SpanCore) → Mem c xs → Mem c ys
  across xs ys x y c i =
      let s = x.span c i in
      let o = x.order c i in
      (y.exactly c.order c.first c.last c.members o s.0 s.1).1 ((x.exactly c.order c.first c.last c.members o s.0 s.1).0 i)

  pub statement-unique : (xs ys : List SpanCore) → GroupStatement n T ws base least xs → GroupStatement n T ws base least ys → xs ≡ ys
  statement-unique xs ys x y = pairwise-same (λ c d. before-asymmetric) x.sorted y.sorted (λ c. (across xs ys x y c, across ys xs y x c))

-- The statement holds of a report's records.
pub report-stated : {n T : ℕ} {ws : List ℕ} {base : ℕ} {least : Thresholds} → LentDay n T ws → Sub base (full n) → GroupStatement n T ws base least (shown_records n T ws base least)
unfolding shown_records
report-stated {n} {T} {ws} {base} {least} lent r = circles-stated lent r (cores-stated lent r) least (groups-earlier n T ws base)
