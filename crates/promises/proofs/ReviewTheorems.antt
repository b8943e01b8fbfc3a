-- A review held against the calls without one: with all n badges it is the call as it was before, and leaving badges out is the call without a review, of
-- the day without these badges' contacts.
use mathlib.Core.Path.{◌≡◌, refl, sym, ap, ◌∙◌}
use mathlib.Core.Bool.{Bool, true, false}
use mathlib.Core.List.{List, map}
use Prim.Native.Nat.{ℕ, ◌≤◌, ◌<◌}
use native.Mathlib.Nat.{le_refl, le_trans}
use native.Mathlib.Omega.{arith}
use Rattle.sets.specs.Bools.{◌and◌, isnt}
use Rattle.sets.specs.Sets.{In, Sub, has, intersection, size, full}
use Rattle.sets.proofs.Bools.{and_in, and_left, and_right}
use Rattle.sets.proofs.Sets.{in-test, has-test, some, of-intersection-left, of-full, sub_refl, sub-antisym, sub_trans}
use Rattle.sets.proofs.Size.{size_none}
use Rattle.records.specs.Outcomes.{Outcome, success, refuse_if, and_then}
use Rattle.days.specs.Days.{LentDay, neighbours, adjacent}
use Rattle.days.proofs.Days.{day-length, in-day, of-day, relation-day}
use Rattle.logs.specs.Buffers.{deliver}
use Rattle.logs.proofs.Delivering.{deliver-passed}
use Rattle.cores.specs.Graphs.{degree, Cohesive}
use Rattle.cores.specs.Cores.{core}
use Rattle.cores.proofs.Degrees.{FewerPairs, degree-mono}
use Rattle.cores.proofs.Cores.{core-sub, core-cohesive, core-largest, core_mono}
use Rattle.thresholds.specs.declared.Thresholds.{Thresholds}
use Rattle.spans.specs.Spans.{span_neighbours}
use Rattle.spans.specs.Reviews.{Review}
use Rattle.spans.specs.SpanCores.{SpanCore}
use Rattle.spans.specs.Plans.{parts_of, is_query, is_reviewed_query}
use Rattle.spans.specs.Encoding.{plan_bytes}
use Rattle.spans.specs.PlanStatement.{PlanAsked}
use Rattle.spans.specs.Judging.{review_of, plan_judged}
use Rattle.spans.proofs.SpanRows.{in_span, of-span}
use Rattle.spans.proofs.Reviews.{all-reviewed}
use Rattle.spans.proofs.SpanCircles.{day-small}
use Rattle.circles.proofs.CircleLists.{pairs-less}
use Rattle.spans.proofs.Judging.{review-passed, all-review}
use Rattle.groups.proofs.PlanTheorems.{plan-passes}
use Rattle.groups.specs.Calls.{core_numbers_of, report_of, plan_of}
use Rattle.promises.specs.Reviews.{core_numbers_of_all, report_of_all, plan_judged_of_all, plan_of_all, leaving_out, at_score_zero}
use Rattle.promises.proofs.SameCores.{SameSpans, span-judged, report-judged, plan-same}

-- ---- all n badges under review: the call as it was before, for every input

pub numbers-of-all : (n T : ℕ) (ws : List ℕ) (first last : ℕ) (buffer : List ℕ) → core_numbers_of n T ws (full n) first last buffer ≡ core_numbers_of_all n T ws first last buffer
unfolding core_numbers_of core_numbers_of_all
numbers-of-all n T ws first last buffer = rw (all-review n T ws)

pub report-of-all : (n T : ℕ) (ws : List ℕ) (least : Thresholds) (buffer : List ℕ) → report_of n T ws (full n) least buffer ≡ report_of_all n T ws least buffer
unfolding report_of report_of_all
report-of-all n T ws least buffer = rw (all-review n T ws)

-- where 13 does not come, 21 does not
judged-of-all : (n T : ℕ) (ws : List ℕ) (query h : ℕ) → plan_judged n T ws (full n) query h ≡ plan_judged_of_all n T ws query h
unfolding plan_judged plan_judged_of_all is_query is_reviewed_query refuse_if isnt
judged-of-all n T ws query h = go (is_query n query) _
  where
    go : (b : Bool) (o : Outcome (List ℕ)) → refuse_if (isnt b) 13 0 (refuse_if (isnt b) 21 0 o) ≡ refuse_if (isnt b) 13 0 o
    go true o = refl
    go false o = refl

pub plan-of-all : (n T : ℕ) (ws : List ℕ) (query h : ℕ) (buffer : List ℕ) → plan_of n T ws (full n) query h buffer ≡ plan_of_all n T ws query h buffer
unfolding plan_of plan_of_all
plan-of-all n T ws query h buffer = rw (all-review n T ws, judged-of-all n T ws query h)

-- ---- badges left out: the call with all n badges under review, of the day without their contacts

module _ {n T : ℕ} {ws : List ℕ} {base : ℕ} (d : LentDay n T ws) (r : Review n base) where
  abbrev left : List ℕ
  left = leaving_out n T ws base

  -- in this day badges are in contact exactly where they are reviewed and were in contact
  in_left : (t u v : ℕ) → t < T → In base u → In base v → In (neighbours n ws t u) v → In (neighbours n left t u) v
  unfolding leaving_out adjacent
  in_left t u v h i j k = in-day n T _ t u v h (of-full n u (r.named.at u i)) (of-full n v (r.named.at v j)) (and_in _ _ (and_in _ _ (has-test base u i) (has-test base v j)) (has-test _ v k))

  of_left : (t u v : ℕ) → t < T → u < n → In (neighbours n left t u) v → In base u × In base v × In (neighbours n ws t u) v
  unfolding leaving_out adjacent
  of_left t u v h l i =
      let e = (of-day n T _ t u v h l i).1 in
      (in-test base u (and_left _ _ (and_left _ _ e)), in-test base v (and_right _ _ (and_left _ _ e)), in-test _ v (and_right _ _ e))

  -- it is a day
  pub left-lent : LentDay n T left
  unfolding leaving_out adjacent
  left-lent = record {
    limits = d.limits;
    enough = omega (arith, day-length n T (λ t u v. has base u and has base v and has (neighbours n ws t u) v));
    day = relation-day n T _
        (λ t u h l e. (d.day.tick t h).irreflexive u l (in-test _ u (and_right _ _ e)))
        (λ t u v h l m e.
        let both = and_left _ _ e in
        and_in _ _ (and_in _ _ (and_right _ _ both) (and_left _ _ both)) (has-test _ u ((d.day.tick t h).symmetric u v l m (in-test _ v (and_right _ _ e)))));
  }

  -- on its spans, all n badges have the cores of order 1 and more that the reviewed badges had
  module _ (first last : ℕ) (m : first ≤ last) (h : last < T) where
    here : ℕ → ℕ
    here = span_neighbours n ws first last

    there : ℕ → ℕ
    there = span_neighbours n left first last

    kept-pairs : FewerPairs base here there
    unfolding here there
    kept-pairs = record {
      pair = λ u v i j k.
          let x = of-span n ws first last u v k in
          in_span n left first last u v x.0 (λ t p q. in_left t u v (omega arith) i j (x.1 t p q));
    }

    old-pairs : FewerPairs (full n) there here
    unfolding here there
    old-pairs = record {
      pair = λ u v i j k.
          let x = of-span n left first last u v k in
          in_span n ws first last u v x.0 (λ t p q. (of_left t u v (omega arith) (of-full n u i) (x.1 t p q)).2);
    }

    -- a badge with a contact in it is reviewed
    reviewed : (j : ℕ) → 1 ≤ j → Sub (core there (full n) j) base
    unfolding degree there
    reviewed j l = record {
      at = λ u i.
          let c = core there (full n) j in
          let p : 1 ≤ size (intersection (there u) c) = le_trans l ((core-cohesive there (full n) j).each u i) in
          let x = some (intersection (there u) c) (λ z. omega (arith, ap size z, size_none)) in
          let s = of-span n left first last u x.0 (of-intersection-left (there u) c x.0 x.1) in
          (of_left last u x.0 h (of-full n u ((core-sub there (full n) j).at u i)) (s.1 last m (le_refl last))).0;
    }

    left-core : (j : ℕ) → 1 ≤ j → core here base j ≡ core there (full n) j
    left-core j l =
        let c = core there (full n) j in
        let cohesive : Cohesive here j c = record {
          each = λ u i.
              let w = core-sub there (full n) j in
              le_trans ((core-cohesive there (full n) j).each u i) (degree-mono old-pairs (sub_refl c) w u (w.at u i));
        } in
        sub-antisym _ _ (core_mono base (full n) j j r.named kept-pairs (le_refl j)) (core-largest here base j c (reviewed j l) cohesive)

  pub left-spans : SameSpans n T ws left base (full n)
  unfolding here there
  left-spans = record {
    small = day-small d base r.named;
    on = λ first last m h. record { at = left-core first last m h };
    forth = λ first last m h. kept-pairs first last m h;
    back = λ first last m h. pairs-less r.named (old-pairs first last m h);
  }

  -- both pass what is judged first
  passes : {o p : Outcome (List ℕ)} (buffer : List ℕ) → o ≡ p → deliver (and_then (review_of n T ws base) (λ x. o)) buffer ≡ deliver (and_then (review_of n T left (full n)) (λ x. p)) buffer
  passes {o} {p} buffer e =
      deliver-passed _ _ buffer tt (review-passed n T ws base d r)
      ∙ ap (λ (q : Outcome (List ℕ)). deliver q buffer) e
      ∙ sym (deliver-passed _ _ buffer tt (review-passed n T left (full n) left-lent (all-reviewed d)))

  -- so core numbers and the report are those of the day without the contacts of badges that are not under review,
  pub numbers-left-out : (first last : ℕ) (buffer : List ℕ) → core_numbers_of n T ws base first last buffer ≡ core_numbers_of n T (leaving_out n T ws base) (full n) first last buffer
  unfolding core_numbers_of
  numbers-left-out first last buffer = passes buffer (span-judged left-spans first last)

  pub report-left-out : (least : Thresholds) (buffer : List ℕ) → report_of n T ws base least buffer ≡ report_of n T (leaving_out n T ws base) (full n) least buffer
  unfolding report_of
  report-left-out least buffer = passes buffer (report-judged left-spans least)

-- and a plan is that of this day, but for the members at score 0: there are the same parts, in which the reviewed set stands in the place of all n badges
-- where the score is 0.
module _ {n T : ℕ} {ws : List ℕ} {base query h : ℕ} (a : PlanAsked n T ws base query h) (buffer : List ℕ) where
  pub plan-left-out : let parts = parts_of n T (leaving_out n T ws base) (full n) query h in
      (plan_of n T (leaving_out n T ws base) (full n) query h buffer ≡ deliver (success (plan_bytes n T h query parts)) buffer)
      × (plan_of n T ws base query h buffer ≡ deliver (success (plan_bytes n T h query (map (at_score_zero base) parts))) buffer)
  plan-left-out = (
    plan-passes (record {
      lent = left-lent a.lent a.reviewed;
      reviewed = all-reviewed a.lent;
      named = sub_trans a.named a.reviewed.named;
      some = a.some;
      enough = a.enough;
    }) buffer,
    plan-passes a buffer ∙ ap (λ (ps : List SpanCore). deliver (success (plan_bytes n T h query ps)) buffer) (plan-same (left-spans a.lent a.reviewed) query h a.some a.enough),
  )
