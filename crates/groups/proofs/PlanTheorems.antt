-- Theorems of the plan: the call keeps its promise, as it stands in specs/ShiftPlans, and what each of its buffers says.
use mathlib.Core.Path.{◌≡◌, sym, ap, ◌∙◌}
use mathlib.Core.List.{List}
use Prim.Native.Nat.{ℕ}
use native.Mathlib.Omega.{arith}
use lib.ListN.{take}
use borrow.Author.Tests.{leb-true}
use Rattle.sets.proofs.Bools.{and_left, and_right, isnt-false}
use Rattle.sets.proofs.Sets.{sub_trans, is-sub-in, is-sub-of}
use Rattle.records.specs.Outcomes.{Outcome, success, and_then}
use Rattle.records.proofs.Outcomes.{success-same, refuse-passed, then-passed}
use Rattle.records.proofs.WithinLimits.{limits_of}
use Rattle.logs.specs.Buffers.{deliver}
use Rattle.logs.proofs.Delivering.{deliver-passed, deliver-short, deliver-fits, deliver-success}
use Rattle.spans.specs.Plans.{parts_of, is_reviewed_query, is_parts}
use Rattle.spans.specs.Encoding.{plan_bytes, plan_records}
use Rattle.spans.specs.PlanStatement.{PlanStatement, PlanAsked}
use Rattle.spans.specs.Judging.{review_of, plan_judged}
use Rattle.spans.proofs.Decoding.{plan-said}
use Rattle.spans.proofs.PlanParts.{parts-stated, plan-count, plan-small}
use Rattle.spans.proofs.Judging.{review-passed, review-day, judged-plan}
use Rattle.groups.specs.Calls.{plan_of}
use Rattle.groups.specs.ShiftPlans.{PlansShifts, PlanShown}

-- the bytes of a plan that was asked for say its parts
parts_said : {n T : ℕ} {ws : List ℕ} {base query h : ℕ} → PlanAsked n T ws base query h → plan_records (plan_bytes n T h query (parts_of n T ws base query h)) ≡ parts_of n T ws base query h
parts_said {n} {T} {ws} {base} {query} {h} a =
    let l = limits_of a.lent.limits in
    plan-said n T h query (parts_of n T ws base query h) (omega (arith, l.few)) (plan-small a) (plan-count a) (omega (arith, a.enough, l.short))

-- it passes every judgement before 9
pub plan-passes : {n T : ℕ} {ws : List ℕ} {base query h : ℕ} → PlanAsked n T ws base query h → (buffer : List ℕ)
    → plan_of n T ws base query h buffer ≡ deliver (success (plan_bytes n T h query (parts_of n T ws base query h))) buffer
unfolding plan_of
plan-passes {n} {T} {ws} {base} {query} {h} a buffer =
    deliver-passed _ _ buffer tt (review-passed n T ws base a.lent a.reviewed)
    ∙ ap (λ (o : Outcome (List ℕ)). deliver o buffer) (judged-plan n T ws base query h (is-sub-in (sub_trans a.named a.reviewed.named)) (is-sub-in a.named) a.some a.enough)

-- The call keeps its promise.
pub plans-shifts : PlansShifts plan_of
plans-shifts n T ws base query h buffer a = record {
  parts = parts_of n T ws base query h;
  stated = parts-stated a;
  said = parts_said a;
  succeeds = λ l. plan-passes a buffer ∙ deliver-fits _ buffer l;
  measures = λ l. plan-passes a buffer ∙ deliver-short _ buffer l;
}

-- So whatever was lent: where the call succeeds, what it was asked for was a plan, and the bytes in front say parts of which the plan statement
-- holds.
pub plan-shown : (n T : ℕ) (ws : List ℕ) (base query h : ℕ) (lent : List ℕ) (answer : Outcome ℕ) (left : List ℕ) → answer ≡ (plan_of n T ws base query h lent).answer → left ≡ (plan_of n T ws base query h lent).buffer
    → PlanShown n T ws base query h answer left
unfolding plan_of plan_judged is_reviewed_query is_parts
plan-shown n T ws base query h lent answer left e f = record { parts = shown }
  where
    shown : (size : ℕ) → answer ≡ success size → PlanStatement n T ws base query h (plan_records (take size left))
    shown size g =
        let d = deliver-success (and_then (review_of n T ws base) (λ x. plan_judged n T ws base query h)) lent size (sym e ∙ g) in
        let c = then-passed _ _ d.1 in
        let r = review-day n T ws base c.1 in
        let q = refuse-passed _ _ _ _ (refuse-passed _ _ _ _ c.2).1 in
        let p = refuse-passed _ _ _ _ q.1 in
        let m = isnt-false _ p.0 in
        let a : PlanAsked n T ws base query h = record {
          lent = r.0;
          reviewed = r.1;
          named = is-sub-of _ _ (isnt-false _ q.0);
          some = leb-true _ _ (and_left _ _ m);
          enough = leb-true _ _ (and_right _ _ m);
        } in
        rw (f, d.2, sym (success-same p.1), parts_said a) (parts-stated a)
