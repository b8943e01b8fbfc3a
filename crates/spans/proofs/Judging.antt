-- Laws of what the calls on words judge before 9: which refusal comes, and the bytes where none does.
use mathlib.Core.Path.{◌≡◌, refl, sym, ap, ◌∙◌}
use mathlib.Core.Bool.{true, false}
use mathlib.Core.List.{List, ◌++◌}
use Prim.Native.Nat.{ℕ, ◌≤◌, ◌<◌}
use lib.Dec.{leb}
use lib.ListN.{length}
use borrow.Author.Tests.{le-leb, leb-true}
use Rattle.sets.specs.Bools.{◌and◌, isnt}
use Rattle.sets.specs.Sets.{is_sub, full}
use Rattle.sets.proofs.Bools.{and_in, and_left, and_right, to-false, isnt-false}
use Rattle.records.specs.Limits.{words_for}
use Rattle.records.specs.Outcomes.{Outcome, refused, success, refuse_if, and_then}
use Rattle.records.proofs.Outcomes.{refuse-passed, then-passed, then-success}
use Rattle.days.specs.Days.{LentDay}
use Rattle.days.specs.Calls.{check_of}
use Rattle.days.proofs.Checks.{check-day, check-passed, check-rest}
use Rattle.thresholds.specs.declared.Thresholds.{Thresholds}
use Rattle.thresholds.specs.Ranges.{in_range}
use Rattle.spans.specs.Spans.{is_span}
use Rattle.spans.specs.Reviews.{is_review, Review}
use Rattle.spans.specs.CircleRecords.{shown_records}
use Rattle.spans.specs.Plans.{parts_of, is_query, is_reviewed_query, is_parts}
use Rattle.spans.specs.Encoding.{report_bytes, plan_bytes}
use Rattle.spans.specs.Judging.{review_of, core_number_bytes, span_judged, report_judged, plan_judged}
use Rattle.spans.proofs.SpanRows.{span-in, span_of}
use Rattle.spans.proofs.Reviews.{review-in, review-of, all-reviewed}

-- ---- the words, and then the badges under review

module _ (n T : ℕ) (ws : List ℕ) (base : ℕ) where
  -- the refusal of the check first, and then as the set is judged
  pub words-refused : (number offset : ℕ) → check_of n T ws ≡ refused number offset → review_of n T ws base ≡ refused number offset
  unfolding review_of and_then
  words-refused number offset e = rw e

  pub words-passed : check_of n T ws ≡ success tt → review_of n T ws base ≡ refuse_if (isnt (is_review n base)) 20 0 (success tt)
  unfolding review_of
  words-passed e = then-success _ tt _ e

  -- a lent day, with a review of it, passes
  pub review-passed : LentDay n T ws → Review n base → review_of n T ws base ≡ success tt
  unfolding refuse_if isnt
  review-passed d r = words-passed (check-day n T ws d.limits d.enough d.day) ∙ rw (review-in r)

  -- what passed is a lent day, with a review of it
  pub review-day : review_of n T ws base ≡ success tt → LentDay n T ws × Review n base
  unfolding review_of
  review-day e =
      let c = then-passed _ _ e in
      let r = refuse-passed _ _ _ _ c.2 in
      (check-passed n T ws c.1, review-of n base (isnt-false _ r.0))

-- all badges of a day are a review of it, so that only the words are judged
pub all-review : (n T : ℕ) (ws : List ℕ) → review_of n T ws (full n) ≡ check_of n T ws
all-review n T ws = go (check_of n T ws) refl
  where
    go : (o : Outcome (Unit {0})) → check_of n T ws ≡ o → review_of n T ws (full n) ≡ check_of n T ws
    go (refused a b) e = words-refused n T ws (full n) a b e ∙ sym e
    go (success x) e = let d = check-passed n T ws e in review-passed n T ws (full n) d (all-reviewed d) ∙ sym e

-- words after the first 2×n×T make no difference to this
pub review-rest : (n T : ℕ) (ws xs ys : List ℕ) (base : ℕ) → length ws ≡ words_for n T → review_of n T (ws ++ xs) base ≡ review_of n T (ws ++ ys) base
unfolding review_of
review-rest n T ws xs ys base e = ap (λ (o : Outcome (Unit {0})). and_then o (λ x. refuse_if (isnt (is_review n base)) 20 0 (success tt))) (check-rest n T ws xs ys e)

-- ---- what each call judges next

-- a span of the day is judged by its bytes, and any other by 12
module _ (n T : ℕ) (ws : List ℕ) (base first last : ℕ) where
  pub judged-yes : first ≤ last → last < T → span_judged n T ws base first last ≡ success (core_number_bytes n ws base first last)
  unfolding span_judged refuse_if isnt
  judged-yes h k = rw (span-in T first last h k)

  pub judged-no : ((first ≤ last) × (last < T) → ⊥) → span_judged n T ws base first last ≡ refused 12 0
  unfolding span_judged refuse_if isnt
  judged-no f = rw (to-false (is_span T first last) (λ e. f (span_of T first last e)))

-- 17, and the bytes
module _ (n T : ℕ) (ws : List ℕ) (base : ℕ) (least : Thresholds) where
  pub judged-range : in_range least ≡ false → report_judged n T ws base least ≡ refused 17 0
  unfolding report_judged refuse_if isnt
  judged-range e = rw e

  pub judged-report : in_range least ≡ true → report_judged n T ws base least ≡ success (report_bytes n T (shown_records n T ws base least))
  unfolding report_judged refuse_if isnt
  judged-report e = rw e

-- 13, 21, 14, and the bytes
module _ (n T : ℕ) (ws : List ℕ) (base query h : ℕ) where
  pub judged-query : is_sub query (full n) ≡ false → plan_judged n T ws base query h ≡ refused 13 0
  unfolding plan_judged is_query refuse_if isnt
  judged-query e = rw e

  pub judged-reviewed : is_sub query (full n) ≡ true → is_sub query base ≡ false → plan_judged n T ws base query h ≡ refused 21 0
  unfolding plan_judged is_query is_reviewed_query refuse_if isnt
  judged-reviewed e f = rw (e, f)

  pub judged-parts : is_sub query (full n) ≡ true → is_sub query base ≡ true → ((1 ≤ h) × (h ≤ T) → ⊥) → plan_judged n T ws base query h ≡ refused 14 0
  unfolding plan_judged is_query is_reviewed_query is_parts refuse_if isnt
  judged-parts e f g = rw (e, f, to-false (leb 1 h and leb h T) (λ x. g (leb-true _ _ (and_left _ _ x), leb-true _ _ (and_right _ _ x))))

  pub judged-plan : is_sub query (full n) ≡ true → is_sub query base ≡ true → 1 ≤ h → h ≤ T → plan_judged n T ws base query h ≡ success (plan_bytes n T h query (parts_of n T ws base query h))
  unfolding plan_judged is_query is_reviewed_query is_parts refuse_if isnt
  judged-plan e f l m = rw (e, f, and_in (leb 1 h) (leb h T) (le-leb _ _ l) (le-leb _ _ m))
