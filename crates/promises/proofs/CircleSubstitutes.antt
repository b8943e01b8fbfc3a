-- Substitutes for the report by circles, each refuted from the group statement: a core shown unsplit, a circle left out, domination judged circle by
-- circle, least members asked of the whole core, and circles by the pairs of one tick. No call that delivers such records keeps the promise.
use mathlib.Core.Path.{◌≡◌, refl, sym, ap, ◌∙◌}
use mathlib.Core.Bool.{Bool, true, false}
use mathlib.Core.List.Memᴰ
use mathlib.Core.List.{List, [], ◌∷◌, ◌++◌, Memᴰ}
use Prim.Native.Nat.{ℕ, zero, suc, ◌≤◌, ◌<◌}
use native.Mathlib.Omega.{arith}
use lib.ListN.{length}
use Rattle.sets.specs.Bytes.{little_endian, from_little_endian}
use Rattle.sets.specs.Sets.{Sub, is_sub, full, size}
use Rattle.sets.proofs.Sets.{some, sub_refl}
use Rattle.records.specs.Records.{fields_of, encode}
use Rattle.records.specs.Outcomes.{success}
use Rattle.days.specs.Days.{LentDay}
use Rattle.days.proofs.Scan.{day-of}
use Rattle.logs.specs.Buffers.{Delivered, deliver}
use Rattle.circles.proofs.CircleLists.{circles-within, circles-just-one}
use Rattle.thresholds.specs.declared.Thresholds.{Thresholds}
use Rattle.thresholds.specs.Ranges.{plain, least_of, in_range}
use Rattle.spans.specs.Spans.{span_ticks, span_neighbours}
use Rattle.spans.specs.Contacts.{OfOrder}
use Rattle.spans.specs.SpanCores.{SpanCore, Mem}
use Rattle.spans.specs.Reports.{groups_of}
use Rattle.spans.specs.KeptGroups.{kept}
use Rattle.spans.specs.CircleRecords.{with_members, circles_of, shown_records}
use Rattle.spans.specs.Encoding.{form_of, encode_core, encode_cores, report_bytes, report_records, decode_core, decode_cores, records_after}
use Rattle.spans.specs.GroupStatement.{Reportable, GroupStatement, ReportAsked}
use Rattle.spans.specs.CoreStatement.{Has}
use Rattle.spans.proofs.Reviews.{all-reviewed}
use Rattle.spans.proofs.SpanCircles.{span-symmetric}
use Rattle.spans.proofs.GroupLists.{cores-stated}
use Rattle.spans.proofs.CircleStated.{core-span, core-inside, core-small, on-circle}
use Rattle.spans.proofs.GroupedRecords.{shown_by}
use Rattle.groups.specs.GroupReports.{ReportsGroups}
use Rattle.promises.specs.Circles.{apart_words, leaving_words, crossing_words, whole_cores, first_circles, one_circle_each, enough_in_all, records_in, tick_records, by_one_tick, circles_at, by_one_of, is_maximal_circle, maximal_circles, circle_by_circle}
use Rattle.promises.proofs.SmallDays.{computing, all_four}
use Rattle.promises.proofs.ReportSubstitutes.{stated-shown, promised-records}

-- ---- of any day

module _ {n T : ℕ} {ws : List ℕ} {base : ℕ} {least : Thresholds} (xs : List SpanCore) (x : GroupStatement n T ws base least xs) where
  -- a record of the list is one to be there
  reportable : (c : SpanCore) → Mem c xs → Reportable n T ws base least c.order c.first c.last c.members
  reportable c i = let s = x.span c i in (x.exactly c.order c.first c.last c.members (x.order c i) s.0 s.1).0 i

  -- A record of an order and a span that others surpass, whatever members it shows, and whatever members those have.
  pub surpassed-record : (c : SpanCore) → Mem c xs → (k first last s : ℕ) → c.order ≤ k → first ≤ c.first → c.last ≤ last → last < T → OfOrder n ws base k first last s
      → (Has c k first last → ⊥) → ⊥
  surpassed-record c i k first last s a b d w o h =
      let e = (reportable c i).unsurpassed.none k first last s a b d w o in
      h (record { its_order = omega (arith, e.0); its_first = omega (arith, e.1); its_last = omega (arith, e.2) })

  -- A record with fewer members than the least number, however many its core has.
  pub too-few-members : (c : SpanCore) → Mem c xs → size c.members < least.members → ⊥
  too-few-members c i h = omega (arith, (reportable c i).many)

  module _ (lent : LentDay n T ws) (r : Sub base (full n)) (c : SpanCore) (i : Mem c (groups_of n T ws base)) (s : ℕ) (j : Memᴰ s (circles_of n ws c)) where
    -- A core shown unsplit that has a circle other than itself.
    pub core-unsplit : (s ≡ c.members → ⊥) → Mem c xs → ⊥
    unfolding circles_of
    core-unsplit f k =
        let g = cores-stated lent r in
        let rows = span_neighbours n ws c.first c.last in
        let small = core-small lent r g c i in
        let whole = on-circle lent r g c i c.members (reportable c k).circle in
        let h = circles-within rows c.members small s j in
        let m = some s (λ e. omega (arith, h.1)) in
        f (circles-just-one rows c.members m.0 s c.members small (span-symmetric (core-span lent r g c i) c.members (core-inside lent r g c i)) j whole m.1 (h.0.at m.0 m.1))

    -- A circle left out that meets the thresholds.
    pub circle-left-out : least.ticks ≤ span_ticks c.first c.last → least.order ≤ c.order → least.members ≤ size s → (Mem (with_members c s) xs → ⊥) → ⊥
    circle-left-out l h m f = f (rw (stated-shown xs x lent r) ((shown_by lent r least c i l h s).1 (j, m)))

-- ---- of three small days

-- all that is computed with
circling : ℕ
unfolding computing apart_words leaving_words crossing_words whole_cores first_circles one_circle_each enough_in_all records_in tick_records by_one_tick circles_at by_one_of is_maximal_circle maximal_circles circle_by_circle little_endian from_little_endian fields_of encode form_of encode_core encode_cores report_bytes decode_core decode_cores records_after
circling = 0

apart-lent : LentDay 6 1 apart_words
unfolding circling
apart-lent = record { limits = refl; enough = omega arith; day = day-of 6 1 apart_words refl }

leaving-lent : LentDay 4 2 leaving_words
unfolding circling
leaving-lent = record { limits = refl; enough = omega arith; day = day-of 4 2 leaving_words refl }

crossing-lent : LentDay 4 2 crossing_words
unfolding circling
crossing-lent = record { limits = refl; enough = omega arith; day = day-of 4 2 crossing_words refl }

-- the records of a day, with all badges under review, are not as many as those of another way to make them
record Differs (other : ℕ → ℕ → List ℕ → ℕ → Thresholds → List SpanCore) (n T : ℕ) (ws : List ℕ) (least : Thresholds) : Type 0 where
  lent : LentDay n T ws
  range : in_range least ≡ true
  right : List SpanCore
  wrong : List SpanCore
  shown : shown_records n T ws (full n) least ≡ right
  made : other n T ws (full n) least ≡ wrong
  said : report_records (report_bytes n T wrong) ≡ wrong
  unlike : length wrong ≡ length right → ⊥

-- No call that delivers the report of such records keeps the promise, whatever records this is made of.
abbrev NoCall : (ℕ → ℕ → List ℕ → ℕ → Thresholds → List SpanCore) → Type 0
NoCall other = (call : ℕ → ℕ → List ℕ → ℕ → Thresholds → List ℕ → Delivered) (groups : ℕ → ℕ → List ℕ → ℕ → Thresholds → List SpanCore)
    → ((n T : ℕ) (ws : List ℕ) (base : ℕ) (least : Thresholds) (buffer : List ℕ) → ReportAsked n T ws base least → call n T ws base least buffer ≡ deliver (success (report_bytes n T (other n T ws base least))) buffer)
    → ReportsGroups call groups → ⊥

module _ {other : ℕ → ℕ → List ℕ → ℕ → Thresholds → List SpanCore} {n T : ℕ} {ws : List ℕ} {least : Thresholds} (d : Differs other n T ws least) where
  unlike-stated : (xs : List SpanCore) → xs ≡ d.wrong → GroupStatement n T ws (full n) least xs → ⊥
  unlike-stated xs e x = d.unlike (ap length (sym e ∙ stated-shown xs x d.lent (sub_refl _) ∙ d.shown))

  refuted : GroupStatement n T ws (full n) least (other n T ws (full n) least) → ⊥
  refuted = unlike-stated _ d.made

  no_call : NoCall other
  no_call call groups f p =
      let a : ReportAsked n T ws (full n) least = record { lent = d.lent; reviewed = all-reviewed d.lent; range = d.range } in
      unlike-stated d.wrong refl (promised-records p a d.wrong d.said
      (λ buffer. f n T ws (full n) least buffer a ∙ ap (λ (xs : List SpanCore). deliver (success (report_bytes n T xs)) buffer) d.made))

-- Two triangles in one tick: one core of order 2 and two circles.
abbrev first_three : SpanCore
first_three = record { order = 2; first = 0; last = 0; members = 7 }

abbrev last_three : SpanCore
last_three = record { order = 2; first = 0; last = 0; members = 56 }

abbrev all_six : SpanCore
all_six = record { order = 2; first = 0; last = 0; members = 63 }

apart-shown : shown_records 6 1 apart_words (full 6) plain ≡ first_three ∷ last_three ∷ []
unfolding circling
apart-shown = refl

-- the core shown unsplit
whole-differs : Differs whole_cores 6 1 apart_words plain
unfolding circling
whole-differs =
    record { lent = apart-lent; range = refl; right = first_three ∷ last_three ∷ []; wrong = all_six ∷ []; shown = apart-shown; made = refl; said = refl; unlike = λ e. omega arith }

pub whole-cores : GroupStatement 6 1 apart_words (full 6) plain (whole_cores 6 1 apart_words (full 6) plain) → ⊥
whole-cores = refuted whole-differs

pub whole-cores-call : NoCall whole_cores
whole-cores-call = no_call whole-differs

-- the second circle left out
left-out-differs : Differs one_circle_each 6 1 apart_words plain
unfolding circling
left-out-differs =
    record { lent = apart-lent; range = refl; right = first_three ∷ last_three ∷ []; wrong = first_three ∷ []; shown = apart-shown; made = refl; said = refl; unlike = λ e. omega arith }

pub second-circle-left-out : GroupStatement 6 1 apart_words (full 6) plain (one_circle_each 6 1 apart_words (full 6) plain) → ⊥
second-circle-left-out = refuted left-out-differs

pub one-circle-each-call : NoCall one_circle_each
one-circle-each-call = no_call left-out-differs

-- least members asked of the whole core: with a least number of 4 the core has enough, and neither circle
enough-differs : Differs enough_in_all 6 1 apart_words (least_of 1 1 4)
unfolding circling
enough-differs =
    record { lent = apart-lent; range = refl; right = []; wrong = first_three ∷ last_three ∷ []; shown = refl; made = refl; said = refl; unlike = λ e. omega arith }

pub enough-in-all : GroupStatement 6 1 apart_words (full 6) (least_of 1 1 4) (enough_in_all 6 1 apart_words (full 6) (least_of 1 1 4)) → ⊥
enough-in-all = refuted enough-differs

pub enough-in-all-call : NoCall enough_in_all
enough-in-all-call = no_call enough-differs

-- Two pairs in tick 0, and the first alone in tick 1: the core of order 1 on tick 0, both pairs, is dominated by that on both ticks, the first pair.
abbrev staying : SpanCore
staying = record { order = 1; first = 0; last = 1; members = 3 }

abbrev leaving : SpanCore
leaving = record { order = 1; first = 0; last = 0; members = 12 }

leaving-shown : shown_records 4 2 leaving_words (full 4) plain ≡ staying ∷ []
unfolding circling
leaving-shown = refl

-- so the second pair is in no list of which the statement holds,
pub leaving-refused : (xs : List SpanCore) → GroupStatement 4 2 leaving_words (full 4) plain xs → Mem leaving xs → ⊥
leaving-refused xs x i =
    let e : leaving ≡ staying = Memᴰ.eq_of_singleton (rw (stated-shown xs x leaving-lent (sub_refl _), leaving-shown) at i) in
    let z : ◌≡◌ {A = ℕ} 12 3 = ap (λ (c : SpanCore). c.members) e in
    omega arith

-- but it is shown where domination is judged circle by circle, by any test by which the circle of the first pair dominates one with the same members and
-- not that of the second pair
module _ (dominated_by : ℕ → ℕ → Bool) (e : dominated_by 3 3 ≡ true) (f : dominated_by 12 3 ≡ false) where
  pub leaving-made : circle_by_circle dominated_by 4 2 leaving_words (full 4) plain ≡ leaving ∷ staying ∷ []
  unfolding circling
  leaving-made = rw (e, f)

  circle-differs : Differs (circle_by_circle dominated_by) 4 2 leaving_words plain
  unfolding circling
  circle-differs =
      record { lent = leaving-lent; range = refl; right = staying ∷ []; wrong = leaving ∷ staying ∷ []; shown = leaving-shown; made = leaving-made; said = refl; unlike = λ e. omega arith }

  pub circle-by-circle : GroupStatement 4 2 leaving_words (full 4) plain (circle_by_circle dominated_by 4 2 leaving_words (full 4) plain) → ⊥
  circle-by-circle = refuted circle-differs

  pub circle-by-circle-call : NoCall (circle_by_circle dominated_by)
  circle-by-circle-call = no_call circle-differs

-- such tests are: the other circle has all its members; and the other lies within it, as a core lies within each that it dominates
pub by-larger-circles : NoCall (circle_by_circle (λ s c. is_sub s c))
unfolding computing
by-larger-circles = circle-by-circle-call _ refl refl

pub by-smaller-circles : NoCall (circle_by_circle (λ s c. is_sub c s))
unfolding computing
by-smaller-circles = circle-by-circle-call _ refl refl

-- Two pairs in both ticks, joined in each tick by another contact: one core of order 1, which is one circle by either tick alone, and two on the span.
crossing-cores : groups_of 4 2 crossing_words (full 4) ≡ all_four ∷ []
unfolding circling
crossing-cores = refl

in-one-tick : (t : ℕ) → t ≤ 1 → kept plain (records_in 4 crossing_words t all_four ++ []) ≡ all_four ∷ []
unfolding circling
in-one-tick zero h = refl
in-one-tick (suc zero) h = refl
in-one-tick (suc (suc t)) h = absurd (omega arith)

module _ (tick : ℕ → ℕ → ℕ) (inside : (first last : ℕ) → first ≤ last → tick first last ≤ last) where
  crossing-made : by_one_tick tick 4 2 crossing_words (full 4) plain ≡ all_four ∷ []
  unfolding by_one_tick tick_records
  crossing-made = rw crossing-cores (in-one-tick (tick 0 1) (inside 0 1 (omega arith)))

  tick-differs : Differs (by_one_tick tick) 4 2 crossing_words plain
  unfolding circling
  tick-differs = record {
    lent = crossing-lent;
    range = refl;
    right = record { order = 1; first = 0; last = 1; members = 3 } ∷ record { order = 1; first = 0; last = 1; members = 12 } ∷ [];
    wrong = all_four ∷ [];
    shown = refl;
    made = crossing-made;
    said = refl;
    unlike = λ e. omega arith;
  }

  pub by-one-tick : GroupStatement 4 2 crossing_words (full 4) plain (by_one_tick tick 4 2 crossing_words (full 4) plain) → ⊥
  by-one-tick = refuted tick-differs

  pub by-one-tick-call : NoCall (by_one_tick tick)
  by-one-tick-call = no_call tick-differs
