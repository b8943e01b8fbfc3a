-- Laws of the call plan: how long a plan is, and that the ends found from a table of the scores are the plan's.
use mathlib.Core.Path.{◌≡◌, refl, sym, ap, ◌∙◌}
use mathlib.Core.Bool.{true}
use mathlib.Core.List.{List, ◌++◌}
use Prim.Native.Nat.{ℕ, ◌≤◌, ◌<◌}
use native.Mathlib.Omega.{arith}
use lib.ListN.{length, take, drop}
use Rattle.sets.specs.Sets.{is_sub, full}
use Rattle.records.specs.Limits.{max_ticks}
use Rattle.records.specs.Outcomes.{Outcome, refused, success}
use Rattle.logs.specs.Buffers.{deliver}
use Rattle.logs.proofs.Delivering.{deliver-short, deliver-fits}
use Rattle.cuts.specs.Cuttings.{Cutting}
use Rattle.cuts.specs.Sums.{best_ends, table_score, ends_of}
use Rattle.cuts.proofs.Sums.{best-ends, ends_same}
use Rattle.cuts.proofs.EndsOf.{ends-of}
use Rattle.spans.specs.Plans.{score_on, parts_from, parts_of}
use Rattle.spans.specs.Encoding.{form_of, plan_bytes}
use Rattle.spans.specs.Judging.{plan_judged}
use Rattle.spans.proofs.MostGroups.{plan-length}
use Rattle.spans.proofs.PlanParts.{parts-length}
use Rattle.spans.proofs.Judging.{judged-plan}
use Rattle.groups.specs.Scoring.{plan_size, Scores}

-- ends that cut a day into h runs, and into the parts of the plan
pub record PlanEnds (n T : ℕ) (ws : List ℕ) (base query h : ℕ) (ends : List ℕ) : Type 0 where
  pub cutting : Cutting T h (take h ends)
  pub parts : parts_from n ws base query 0 (take h ends) ≡ parts_of n T ws base query h

-- a plan that was asked for has the length that h says
module _ (n T : ℕ) (ws : List ℕ) (base query h : ℕ) (q : is_sub query (full n) ≡ true) (v : is_sub query base ≡ true) (l : 1 ≤ h) (m : h ≤ T) (buffer : List ℕ) where
  planned : List ℕ
  planned = plan_bytes n T h query (parts_of n T ws base query h)

  planned-size : length planned ≡ plan_size (form_of n).set_bytes h
  unfolding planned parts_of
  planned-size = omega (arith, plan-length n T h query (parts_of n T ws base query h) (parts-length n ws base query 0 (best_ends (score_on n ws base query) T h) ∙ (best-ends (score_on n ws base query) T h l m).best.cutting.count))

  -- a buffer that is shorter gets 9,
  pub planned-short : {w : ℕ} → w ≡ (form_of n).set_bytes → length buffer < plan_size w h → (refused 9 0 ≡ (deliver (plan_judged n T ws base query h) buffer).answer) × (buffer ≡ (deliver (plan_judged n T ws base query h) buffer).buffer)
  unfolding planned
  planned-short same s =
      let size : length buffer < plan_size (form_of n).set_bytes h = rw same at s in
      let d = ap (λ (o : Outcome (List ℕ)). deliver o buffer) (judged-plan n T ws base query h q v l m) ∙ deliver-short planned buffer (omega (arith, planned-size)) in
      (rw d refl, rw d refl)

  -- and one that holds the plan has it in front
  pub planned-fits : {w : ℕ} {left : List ℕ} → w ≡ (form_of n).set_bytes → plan_size w h ≤ length buffer → left ≡ plan_bytes n T h query (parts_of n T ws base query h) ++ drop (plan_size (form_of n).set_bytes h) buffer
      → (success (plan_size w h) ≡ (deliver (plan_judged n T ws base query h) buffer).answer) × (left ≡ (deliver (plan_judged n T ws base query h) buffer).buffer)
  unfolding planned
  planned-fits {w} same s e =
      let size : plan_size w h ≡ length planned = rw same (sym planned-size) in
      let d = ap (λ (o : Outcome (List ℕ)). deliver o buffer) (judged-plan n T ws base query h q v l m) ∙ deliver-fits planned buffer (omega (arith, size)) in
      (rw d (ap (λ (x : ℕ). success x) size), rw d (e ∙ ap (λ (x : ℕ). planned ++ drop x buffer) (sym planned-size)))

-- those found from a table of the scores are such
pub table-ends : {n T : ℕ} {ws : List ℕ} {base query h : ℕ} {scores : List ℕ} (ends : List ℕ) → Scores n T ws base query T scores → 1 ≤ h → h ≤ T → T ≤ max_ticks → ends ≡ ends_of scores T h
    → PlanEnds n T ws base query h ends
unfolding parts_of
table-ends {n} {T} {ws} {base} {query} {h} {scores} ends s l m w e =
    let f : take h ends ≡ best_ends (score_on n ws base query) T h = ap (take h) e ∙ ends-of scores T h l m w ∙ ends_same (table_score scores) (score_on n ws base query) T h (λ x y p q. s.score x y (omega arith) p q) l m in
    record { cutting = rw f (best-ends (score_on n ws base query) T h l m).best.cutting; parts = ap (parts_from n ws base query 0) f }
