-- Words after the first 2×n×T make no difference to core numbers, the report and the plan.
use mathlib.Core.Path.{◌≡◌, refl, sym, ap, ◌∙◌}
use mathlib.Core.Bool.{Bool, true, false}
use mathlib.Core.List.{List, ◌++◌}
use Prim.Native.Nat.{ℕ, ◌≤◌, ◌<◌}
use native.Mathlib.Nat.{lt_of_lt_of_le}
use lib.ListN.{length}
use lib.Pow.{pow_mono}
use borrow.Author.Tests.{leb-true}
use Rattle.sets.specs.Bools.{isnt}
use Rattle.sets.specs.Sets.{Sub, full}
use Rattle.sets.specs.Members.{capacity}
use Rattle.sets.proofs.Bools.{and_left, and_right}
use Rattle.sets.proofs.Sets.{sub-lt, full-lt}
use Rattle.records.specs.Limits.{words_for}
use Rattle.records.specs.Outcomes.{Outcome, refused, success, refuse_if, and_then}
use Rattle.logs.specs.Buffers.{deliver}
use Rattle.logs.proofs.Delivering.{deliver-refused}
use Rattle.records.proofs.WithinLimits.{limits_of}
use Rattle.cores.proofs.Degrees.{FewerPairs}
use Rattle.cores.proofs.Cores.{core-same}
use Rattle.thresholds.specs.declared.Thresholds.{Thresholds}
use Rattle.spans.specs.Spans.{span_neighbours}
use Rattle.spans.specs.SpanCores.{SpanCore}
use Rattle.spans.specs.Plans.{parts_of, is_query, is_reviewed_query, is_parts}
use Rattle.spans.specs.Encoding.{plan_bytes}
use Rattle.spans.specs.Judging.{review_of, plan_judged}
use Rattle.spans.proofs.SpanRows.{SameDay, same_rest, fewer_head}
use Rattle.spans.proofs.Judging.{review-day, review-rest}
use Rattle.groups.specs.Calls.{core_numbers_of, report_of, plan_of}
use Rattle.promises.proofs.SameCores.{SameSpans, span-judged, report-judged, plan-same, zero-shown}

-- words with the same neighbours of n badges in T ticks have the same cores and pairs on every span, among badges of the day
pub same-spans : {n T : ℕ} {xs ys : List ℕ} {base : ℕ} → n ≤ capacity → SameDay n T xs ys → Sub base (full n) → SameSpans n T xs ys base base
same-spans {n} {T} {xs} {ys} {base} w f r = record {
  small = lt_of_lt_of_le (sub-lt n base (full n) r (full-lt n)) (pow_mono w);
  on = λ first last m h. record { at = λ j l. core-same base j (forth first last h) (back first last h) };
  forth = λ first last m h. forth first last h;
  back = λ first last m h. back first last h;
}
  where
    forth : (first last : ℕ) → last < T → FewerPairs base (span_neighbours n xs first last) (span_neighbours n ys first last)
    forth first last h = fewer_head n T xs ys base first last h f r

    back : (first last : ℕ) → last < T → FewerPairs base (span_neighbours n ys first last) (span_neighbours n xs first last)
    back first last h = fewer_head n T ys xs base first last h (λ t u a b. sym (f t u a b)) r

-- so the same plan, and it is judged alike
plan-head : (n T : ℕ) (xs ys : List ℕ) (base query h : ℕ) → SameSpans n T xs ys base base → plan_judged n T xs base query h ≡ plan_judged n T ys base query h
unfolding plan_judged is_parts refuse_if isnt
plan-head n T xs ys base query h f = ap (λ (o : Outcome (List ℕ)). refuse_if (isnt (is_query n query)) 13 0 (refuse_if (isnt (is_reviewed_query base query)) 21 0 o)) (counted (is_parts T h) refl)
  where
    counted : (b : Bool) → is_parts T h ≡ b
        → refuse_if (isnt b) 14 0 (success (plan_bytes n T h query (parts_of n T xs base query h))) ≡ refuse_if (isnt b) 14 0 (success (plan_bytes n T h query (parts_of n T ys base query h)))
    counted true e =
        ap (λ (ps : List SpanCore). success (plan_bytes n T h query ps)) (plan-same f query h (leb-true _ _ (and_left _ _ e)) (leb-true _ _ (and_right _ _ e)) ∙ zero-shown n ys base query T h)
    counted false e = refl

-- words after the first 2×n×T make no difference to a call where they make none to what it judges after the badges under review
judged-rest : (n T : ℕ) (ws xs ys : List ℕ) (base : ℕ) (buffer : List ℕ) {o p : Outcome (List ℕ)} → length ws ≡ words_for n T → (n ≤ capacity → Sub base (full n) → o ≡ p)
    → deliver (and_then (review_of n T (ws ++ xs) base) (λ x. o)) buffer ≡ deliver (and_then (review_of n T (ws ++ ys) base) (λ x. p)) buffer
judged-rest n T ws xs ys base buffer {o} {p} e f = ap (λ (r : Outcome (Unit {0})). deliver (and_then r (λ x. o)) buffer) first ∙ go (review_of n T (ws ++ ys) base) refl
  where
    first : review_of n T (ws ++ xs) base ≡ review_of n T (ws ++ ys) base
    first = review-rest n T ws xs ys base e

    go : (r : Outcome (Unit {0})) → review_of n T (ws ++ ys) base ≡ r
        → deliver (and_then (review_of n T (ws ++ ys) base) (λ x. o)) buffer ≡ deliver (and_then (review_of n T (ws ++ ys) base) (λ x. p)) buffer
    go (refused a b) g = deliver-refused _ _ buffer a b g ∙ sym (deliver-refused _ _ buffer a b g)
    go (success x) g = ap (λ (q : Outcome (List ℕ)). deliver (and_then (review_of n T (ws ++ ys) base) (λ x. q)) buffer) (let d = review-day n T (ws ++ ys) base g in f (limits_of d.0.limits).few d.1.named)

-- Words after the first 2×n×T make no difference.
module _ (n T : ℕ) (ws xs ys : List ℕ) (base : ℕ) (e : length ws ≡ words_for n T) where
  rest : n ≤ capacity → Sub base (full n) → SameSpans n T (ws ++ xs) (ws ++ ys) base base
  rest w r = same-spans w (same_rest n T ws xs ys e) r

  pub numbers-rest : (first last : ℕ) (buffer : List ℕ) → core_numbers_of n T (ws ++ xs) base first last buffer ≡ core_numbers_of n T (ws ++ ys) base first last buffer
  unfolding core_numbers_of
  numbers-rest first last buffer = judged-rest n T ws xs ys base buffer e (λ w r. span-judged (rest w r) first last)

  pub report-rest : (least : Thresholds) (buffer : List ℕ) → report_of n T (ws ++ xs) base least buffer ≡ report_of n T (ws ++ ys) base least buffer
  unfolding report_of
  report-rest least buffer = judged-rest n T ws xs ys base buffer e (λ w r. report-judged (rest w r) least)

  pub plan-rest : (query h : ℕ) (buffer : List ℕ) → plan_of n T (ws ++ xs) base query h buffer ≡ plan_of n T (ws ++ ys) base query h buffer
  unfolding plan_of
  plan-rest query h buffer = judged-rest n T ws xs ys base buffer e (λ w r. plan-head n T (ws ++ xs) (ws ++ ys) base query h (rest w r))
