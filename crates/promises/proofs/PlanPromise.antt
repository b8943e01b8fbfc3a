-- What the promise of the plan comes to: the plan statement leaves no choice of the sum, and none of the ends; so a call that keeps the promise gives
-- the first of the best cuttings, and succeeds in a buffer of the length that h fixes.
use mathlib.Core.Path.{◌≡◌, refl, sym, ap, ◌∙◌}
use mathlib.Core.List.{List}
use mathlib.Core.Logic.{by_cases}
use Prim.Native.Nat.{ℕ, ◌+◌, ◌*◌, ◌≤◌}
use native.Mathlib.Decide.{dec_lt}
use native.Mathlib.Omega.{arith}
use lib.ListN.{length, take}
use Rattle.sets.specs.Words.{word_bits}
use Rattle.records.specs.Outcomes.{success}
use Rattle.records.proofs.Outcomes.{success-same}
use Rattle.logs.specs.Buffers.{Delivered, deliver}
use Rattle.logs.proofs.Delivering.{deliver-short, deliver-fits, deliver-success}
use Rattle.cuts.specs.Cuttings.{IsFirstBest}
use Rattle.cuts.specs.Sums.{best_ends}
use Rattle.cuts.proofs.FirstCuttings.{neither-before}
use Rattle.cuts.proofs.Sums.{best-ends}
use Rattle.spans.specs.SpanCores.{SpanCore}
use Rattle.spans.specs.Plans.{score_on}
use Rattle.spans.specs.Encoding.{form_of, record_bytes, plan_bytes, plan_records}
use Rattle.spans.specs.PlanStatement.{Runs, none, run, sum_of_orders, part_ends, PlanStatement, PlanAsked}
use Rattle.spans.proofs.Forms.{form-narrow}
use Rattle.spans.proofs.MostGroups.{plan-length}
use Rattle.spans.proofs.PlanParts.{parts-stated, plan_ends}
use Rattle.groups.specs.ShiftPlans.{PlansShifts}

-- The statement leaves no choice of the sum: two lists of which it holds have the same;
module _ {n T : ℕ} {ws : List ℕ} {base query h : ℕ} (xs ys : List SpanCore) (x : PlanStatement n T ws base query h xs) (y : PlanStatement n T ws base query h ys) where
  pub sums_same : sum_of_orders xs ≡ sum_of_orders ys
  sums_same = omega (arith, x.greatest ys y.cutting, y.greatest xs x.cutting)

  -- and none of the ends: "No plan is left free then, and none is named as free."
  pub ends_same : part_ends xs ≡ part_ends ys
  ends_same = neither-before (part_ends xs) (part_ends ys) (y.first xs x.cutting sums_same) (x.first ys y.cutting (sym sums_same))

-- h runs are h parts, and a plan's length is that of h parts
runs-length : {T h t : ℕ} {ps : List SpanCore} → Runs T h t ps → length ps ≡ h
runs-length none = refl
runs-length (run l r) = omega (arith, runs-length r)

stated-length : {n T : ℕ} {ws : List ℕ} {base query h : ℕ} (ps : List SpanCore) → PlanStatement n T ws base query h ps → length (plan_bytes n T h query ps) ≡ 11 + (form_of n).set_bytes + record_bytes n * h
stated-length {n} {T} {query = query} {h} ps s = plan-length n T h query ps (runs-length s.cutting.runs)

-- A call that keeps the promise:
module _ (call : ℕ → ℕ → List ℕ → ℕ → ℕ → ℕ → List ℕ → Delivered) (p : PlansShifts call) {n T : ℕ} {ws : List ℕ} {base query h : ℕ} (buffer : List ℕ) (a : PlanAsked n T ws base query h) where
  abbrev pub bytes : List ℕ
  bytes = plan_bytes n T h query (p n T ws base query h buffer a).parts

  -- it delivers the bytes of parts of which the plan statement holds, and which they say;
  delivers : call n T ws base query h buffer ≡ deliver (success bytes) buffer
  delivers =
      let s = p n T ws base query h buffer a in
      by_cases (dec_lt (length buffer) (length bytes)) (λ l. s.measures l ∙ sym (deliver-short bytes buffer l)) (λ l. s.succeeds (omega arith) ∙ sym (deliver-fits bytes buffer (omega arith)))

  pub plan-bytes : (size : ℕ) → (call n T ws base query h buffer).answer ≡ success size → take size (call n T ws base query h buffer).buffer ≡ bytes
  plan-bytes size g =
      let d = deliver-success (success bytes) buffer size (sym (ap (λ (x : Delivered). x.answer) delivers) ∙ g) in
      ap (λ (x : Delivered). take size x.buffer) delivers ∙ d.2 ∙ sym (success-same d.1)

  pub plan-kept : (size : ℕ) → (call n T ws base query h buffer).answer ≡ success size → PlanStatement n T ws base query h (plan_records (take size (call n T ws base query h buffer).buffer))
  plan-kept size g = let s = p n T ws base query h buffer a in rw (plan-bytes size g, s.said) s.stated

  -- it succeeds in a buffer of as many bytes as n and h fix, or more,
  pub bytes-length : length bytes ≡ 11 + (form_of n).set_bytes + record_bytes n * h
  bytes-length = let s = p n T ws base query h buffer a in stated-length s.parts s.stated

  pub plan-succeeds : 11 + (form_of n).set_bytes + record_bytes n * h ≤ length buffer → (call n T ws base query h buffer).answer ≡ success (11 + (form_of n).set_bytes + record_bytes n * h)
  plan-succeeds l = ap (λ (x : Delivered). x.answer) ((p n T ws base query h buffer a).succeeds (omega (arith, bytes-length))) ∙ ap success bytes-length

  -- which are 19 + 13×h up to 64 badges;
  module _ (few : n ≤ word_bits) where
    narrow : 11 + (form_of n).set_bytes + record_bytes n * h ≡ 19 + 13 * h
    narrow = rw (form-narrow n few)

    pub narrow-length : length bytes ≡ 19 + 13 * h
    narrow-length = bytes-length ∙ narrow

    pub narrow-succeeds : 19 + 13 * h ≤ length buffer → (call n T ws base query h buffer).answer ≡ success (19 + 13 * h)
    narrow-succeeds l = plan-succeeds (omega (arith, narrow)) ∙ ap success narrow

  -- and the ends that its bytes say are the first of the best cuttings, by the scores
  pub ends_found : (size : ℕ) → (call n T ws base query h buffer).answer ≡ success size
      → part_ends (plan_records (take size (call n T ws base query h buffer).buffer)) ≡ best_ends (score_on n ws base query) T h
  ends_found size g = ends_same _ _ (plan-kept size g) (parts-stated a) ∙ plan_ends a

  pub ends-first : (size : ℕ) → (call n T ws base query h buffer).answer ≡ success size
      → IsFirstBest (score_on n ws base query) T h (part_ends (plan_records (take size (call n T ws base query h buffer).buffer)))
  ends-first size g = rw (ends_found size g) (best-ends (score_on n ws base query) T h a.some a.enough)
