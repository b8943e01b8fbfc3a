-- How many records a report has. The maximal cores that start with a tick have orders that fall as their last ticks rise, and a core of order k has at
-- most one circle for each k + 1 badges. So a day of n badges and T ticks has at most T times the sum of n / (k + 1) records, and any day at most 49,632.
use mathlib.Core.Path.{◌≡◌, refl, subst}
use mathlib.Core.List.Memᴰ
use mathlib.Core.List.{List, [], ◌∷◌}
use mathlib.Core.Logic.{◌⊎◌, inl, inr, by_cases}
use Prim.Native.Nat.{ℕ, zero, suc, ◌+◌, ◌*◌, ◌/◌, ◌≤◌, ◌<◌, zero-le, suc-le-suc}
use native.Mathlib.Nat.{le_refl, le_trans, eq-or-lt_of_le, mul_comm, mul-le-mul, mul-le-mul_left, div-mul-le_self, le-div_iff_mul-le}
use native.Mathlib.Decide.{dec_lt}
use native.Mathlib.Omega.{arith}
use lib.ListN.{length, length-append, length-map}
use Rattle.sets.specs.Sets.{Sub, full}
use Rattle.sets.specs.Tables.{Pairwise, nothing, followed}
use Rattle.sets.proofs.Sets.{sub-lt, full-lt}
use Rattle.sets.proofs.Size.{size-le}
use Rattle.sets.proofs.Concat.{in-concat, concat-le}
use Rattle.sets.proofs.Pairwise.{pairwise-weaken}
use Rattle.records.specs.Limits.{max_badges, max_ticks}
use Rattle.records.proofs.WithinLimits.{limits_of}
use Rattle.days.specs.Days.{LentDay}
use Rattle.circles.specs.Circles.{circles}
use Rattle.circles.proofs.CohesiveCircles.{circles-by-order}
use Rattle.thresholds.specs.declared.Thresholds.{Thresholds}
use Rattle.spans.specs.Spans.{span_neighbours}
use Rattle.spans.specs.SpanCores.{SpanCore, Mem}
use Rattle.spans.specs.Reports.{groups_from, groups_of}
use Rattle.spans.specs.CircleRecords.{with_members, circles_of, records_of, circle_records, shown_records}
use Rattle.spans.specs.CoreStatement.{CoreStatement}
use Rattle.spans.specs.Encoding.{circles_up_to, most_records, max_records, max_report_bytes, record_bytes, report_bytes, report_records}
use Rattle.spans.proofs.OrderSets.{order-cohesive}
use Rattle.spans.proofs.SpanCircles.{span-symmetric, span-irreflexive}
use Rattle.spans.proofs.Maximal.{maximal-of}
use Rattle.spans.proofs.KeptRecords.{kept-le}
use Rattle.spans.proofs.GroupOrder.{Earlier, first_rises, last_rises, of-line, line-earlier}
use Rattle.spans.proofs.GroupLists.{Shown, of-groups, group-few, group-parts, cores-stated}
use Rattle.spans.proofs.RecordLists.{circle-records-concat}
use Rattle.spans.proofs.CircleStated.{core-span, core-inside, core-small, report-stated}
use Rattle.spans.proofs.StatedRecords.{records-small}
use Rattle.spans.proofs.Forms.{marked}
use Rattle.spans.proofs.Decoding.{report-said}
use Rattle.spans.proofs.MostGroups.{report-length}

-- ---- the bound grows with the badges and with the orders

divide-le : {m n : ℕ} (k : ℕ) → m ≤ n → m / suc k ≤ n / suc k
divide-le {m} {n} k h = (le-div_iff_mul-le {k = suc k} {x = m / suc k} {y = n} (suc-le-suc zero-le)).1 (le_trans (div-mul-le_self m (suc k)) h)

more-badges : {m n : ℕ} (k : ℕ) → m ≤ n → circles_up_to m k ≤ circles_up_to n k
unfolding circles_up_to
more-badges zero h = zero-le
more-badges (suc k) h = omega (arith, more-badges k h, divide-le (suc k) h)

more-orders : (n k m : ℕ) → k ≤ m → circles_up_to n k ≤ circles_up_to n m
unfolding circles_up_to
more-orders n k zero h = let e : k ≡ 0 = omega arith in rw e (le_refl _)
more-orders n k (suc m) h = go (eq-or-lt_of_le h) (more-orders n k m)
  where
    go : (k ≡ suc m) ⊎ (k < suc m) → (k ≤ m → circles_up_to n k ≤ circles_up_to n m) → circles_up_to n k ≤ circles_up_to n m + n / suc (suc m)
    go (inl e) ih = rw e (le_refl _)
    go (inr l) ih = omega (arith, ih (omega arith))

most-of-day : circles_up_to max_badges max_badges ≡ 517
unfolding circles_up_to
most-of-day = refl

-- so no day has room for more records than one of 128 badges and 96 ticks
pub most-small : {n T : ℕ} → n ≤ max_badges → T ≤ max_ticks → most_records n T ≤ max_records
most-small {n} {T} few short =
    let sum : circles_up_to n n ≤ 517 = omega (arith, more-badges n few, more-orders max_badges n max_badges few, most-of-day) in
    omega (arith, mul-le-mul short sum)

-- ---- cores whose orders fall

abbrev Falls : SpanCore → SpanCore → Type 0
Falls c d = d.order < c.order

-- a core of order k with few records: one for each k + 1 badges
record FewRecords (n : ℕ) (ws : List ℕ) (c : SpanCore) : Type 0 where
  low : 1 ≤ c.order
  few : length (records_of n ws c) ≤ n / suc c.order

-- such cores, of falling orders up to m, have no more records than one of each order
falling-few : (n : ℕ) (ws : List ℕ) (cs : List SpanCore) → Pairwise Falls cs → ((c : SpanCore) → Mem c cs → FewRecords n ws c) → (m : ℕ) → ((c : SpanCore) → Mem c cs → c.order ≤ m)
    → length (circle_records n ws cs) ≤ circles_up_to n m
unfolding circle_records circles_up_to
falling-few n ws [] nothing h m top = zero-le
falling-few n ws (c ∷ cs) (followed f p) h m top = go c.order refl (falling-few n ws cs p (λ d i. h d (Memᴰ.tail i)))
  where
    go : (k : ℕ) → c.order ≡ k → ((m : ℕ) → ((d : SpanCore) → Mem d cs → d.order ≤ m) → length (circle_records n ws cs) ≤ circles_up_to n m)
        → length (circle_records n ws (c ∷ cs)) ≤ circles_up_to n m
    go zero e ih = absurd (omega (arith, (h c (Memᴰ.head refl)).low))
    go (suc k) e ih =
        let own : length (records_of n ws c) ≤ n / suc (suc k) = subst (λ (o : ℕ). length (records_of n ws c) ≤ n / suc o) e (h c (Memᴰ.head refl)).few in
        omega (arith, length-append (records_of n ws c) (circle_records n ws cs), ih k (λ d i. omega (arith, f d i)), more-orders n (suc k) m (omega (arith, top c (Memᴰ.head refl))))

-- a core of order k has at most one circle, and so one record, for each k + 1 badges
core-few : {n T : ℕ} {ws : List ℕ} {base : ℕ} {least : Thresholds} {groups : List SpanCore} → LentDay n T ws → Sub base (full n) → CoreStatement n T ws base least groups
    → (c : SpanCore) → Mem c groups → FewRecords n ws c
unfolding records_of circles_of
core-few {n} {T} {ws} {base} lent r g c i =
    let rows = span_neighbours n ws c.first c.last in
    let d = core-span lent r g c i in
    let w = core-inside lent r g c i in
    let many = circles-by-order rows c.order c.members (core-small lent r g c i) (span-symmetric d c.members w) (span-irreflexive d c.members w) (order-cohesive d base r (g.members c i)) in
    let most : length (circles rows c.members) * suc c.order ≤ n =
    omega (arith, many, size-le n c.members (sub-lt n c.members (full n) w (full-lt n)), mul_comm (suc c.order) (length (circles rows c.members))) in
    record {
      low = g.order c i;
      few = rw (length-map (circles rows c.members) (with_members c)) ((le-div_iff_mul-le {k = suc c.order} {x = length (circles rows c.members)} {y = n} (suc-le-suc zero-le)).1 most);
    }

-- ---- the records of a day

module _ {n T : ℕ} {ws : List ℕ} {base : ℕ} (lent : LentDay n T ws) (r : Sub base (full n)) where
  -- of two maximal cores with the same first tick, the one with the later last tick has the lower order: the other is not as large
  order-falls : (c d : SpanCore) → Shown n T ws base c → Shown n T ws base d → c.first ≡ d.first → Earlier c d → d.order < c.order
  order-falls c d x y e (first_rises l) = absurd (omega arith)
  order-falls c d x y e (last_rises f l) = by_cases (dec_lt d.order c.order) (λ h. h) (λ h.
      let p = group-parts n T ws base c.order c.first c.last x.group in
      let q = group-parts n T ws base d.order d.first d.last y.group in
      let s = maximal-of n T ws base c.order c.first c.last p.2 d.order d.first d.last y.rising y.inside (omega arith) (omega arith) (omega arith) q.1 in
      absurd (omega (arith, s.2)))

  -- so the records of the cores that start with a tick are no more than those of one core of each order,
  line-records : (first : ℕ) → first < T → length (circle_records n ws (groups_from n T ws base first)) ≤ circles_up_to n n
  unfolding groups_of
  line-records first l = falling-few n ws line
      (pairwise-weaken (λ c d i j e. order-falls c d (shown c i) (shown d j) (omega (arith, of-line n T ws base first c i, of-line n T ws base first d j)) e) (line-earlier n T ws base first))
      (λ c i. core-few lent r (cores-stated lent r) c (in-groups c i)) n
      (λ c i. let x = shown c i in group-few n T ws base c.order c.first c.last x.rising x.inside x.group)
    where
      line : List SpanCore
      line = groups_from n T ws base first

      in-groups : (c : SpanCore) → Mem c line → Mem c (groups_of n T ws base)
      in-groups c i = in-concat T (groups_from n T ws base) first l i

      shown : (c : SpanCore) → Mem c line → Shown n T ws base c
      shown c i = of-groups n T ws base c (in-groups c i)

  -- those of all cores no more than that for each tick, and those kept no more than all
  pub records_few : (least : Thresholds) → length (shown_records n T ws base least) ≤ most_records n T
  unfolding shown_records groups_of
  records_few least =
      let all : length (circle_records n ws (groups_of n T ws base)) ≤ most_records n T = rw (circle-records-concat n ws T (groups_from n T ws base)) (concat-le _ (circles_up_to n n) T line-records) in
      le_trans (kept-le least _) all

  -- So long a report of the day is at most, and so long any report.
  pub report-most-for : (least : Thresholds) → length (report_bytes n T (shown_records n T ws base least)) ≤ 10 + record_bytes n * most_records n T
  report-most-for least = omega (arith, report-length n T (shown_records n T ws base least), mul-le-mul_left (record_bytes n) (records_few least))

  pub report-most : (least : Thresholds) → length (report_bytes n T (shown_records n T ws base least)) ≤ max_report_bytes
  report-most least =
      let l = limits_of lent.limits in
      let wide : record_bytes n ≤ 21 = omega (arith, (marked n).most) in
      omega (arith, report-most-for least, mul-le-mul wide (most-small l.few l.short))

  -- the bytes of a report say its records: their number fits four bytes, and their members those of their sets
  pub shown-said : (least : Thresholds) → report_records (report_bytes n T (shown_records n T ws base least)) ≡ shown_records n T ws base least
  shown-said least =
      let l = limits_of lent.limits in
      report-said n T (shown_records n T ws base least) (omega (arith, l.few)) (records-small r (report-stated lent r)) (omega (arith, records_few least, most-small l.few l.short))
