-- Calls that choose another of the best cuttings than the first, each refuted from the promise of the plan.
use mathlib.Core.Path.{◌≡◌, refl, ◌∙◌}
use mathlib.Core.List.Lexᴰ
use mathlib.Core.List.{List, [], ◌∷◌, reverse}
use Prim.Native.Nat.{ℕ}
use native.Mathlib.Omega.{arith}
use lib.ListN.{take, replicate, length-replicate}
use Rattle.sets.specs.Sets.{full}
use Rattle.sets.proofs.Sets.{is-sub-of}
use Rattle.records.specs.Outcomes.{success}
use Rattle.days.specs.Days.{LentDay}
use Rattle.days.proofs.Scan.{day-of}
use Rattle.logs.specs.Buffers.{Delivered}
use Rattle.cuts.specs.Cuttings.{total, IsBest, ComesBefore}
use Rattle.cuts.specs.Sums.{best_ends}
use Rattle.cuts.proofs.Cuttings.{one, more, of-cuts}
use Rattle.cuts.proofs.FirstCuttings.{best-of-sum}
use Rattle.cuts.proofs.Sums.{best-ends}
use Rattle.spans.specs.Plans.{score_on}
use Rattle.spans.proofs.Reviews.{all-reviewed}
use Rattle.spans.specs.Encoding.{plan_records}
use Rattle.spans.specs.PlanStatement.{part_ends, PlanAsked}
use Rattle.groups.specs.ShiftPlans.{PlansShifts}
use Rattle.promises.specs.Ties.{ties_words}
use Rattle.promises.proofs.PlanPromise.{narrow-succeeds, ends_found, ends-first}
use Rattle.promises.proofs.SmallDays.{computing}

ties-lent : LentDay 3 5 ties_words
unfolding computing ties_words
ties-lent = record { limits = refl; enough = omega arith; day = day-of 3 5 ties_words refl }

ties-asked : PlanAsked 3 5 ties_words (full 3) 1 3
unfolding computing ties_words
ties-asked = record { lent = ties-lent; reviewed = all-reviewed ties-lent; named = is-sub-of 1 (full 3) refl; some = omega arith; enough = omega arith }

-- Around badge 0 in three parts the first of the best cuttings ends with the ticks 0, 3 and 4, and those with the ends 1, 2 and 4, and 2, 3 and 4 are
-- best, too. Compared from the end, 1, 2 and 4 come before 0, 3 and 4.
ties-ends : best_ends (score_on 3 ties_words (full 3) 1) 5 3 ≡ 0 ∷ 3 ∷ 4 ∷ []
unfolding computing ties_words
ties-ends = refl

first-best : IsBest (score_on 3 ties_words (full 3) 1) 5 3 (0 ∷ 3 ∷ 4 ∷ [])
first-best = rw ties-ends at (best-ends (score_on 3 ties_words (full 3) 1) 5 3 (omega arith) (omega arith)).best

middle-best : IsBest (score_on 3 ties_words (full 3) 1) 5 3 (1 ∷ 2 ∷ 4 ∷ [])
unfolding computing ties_words total
middle-best = best-of-sum first-best (of-cuts (more (omega arith) (more (omega arith) (one (omega arith) refl)))) refl

last-best : IsBest (score_on 3 ties_words (full 3) 1) 5 3 (2 ∷ 3 ∷ 4 ∷ [])
unfolding computing ties_words total
last-best = best-of-sum first-best (of-cuts (more (omega arith) (more (omega arith) (one (omega arith) refl)))) refl

-- A call that chooses by some order of lists: wherever it succeeds, no best cutting comes before the ends that its bytes say.
abbrev pub ChoosesBy : (List ℕ → List ℕ → Type 0) → (ℕ → ℕ → List ℕ → ℕ → ℕ → ℕ → List ℕ → Delivered) → Type 0
ChoosesBy comes call =
    (n T : ℕ) (ws : List ℕ) (base query h : ℕ) (buffer : List ℕ) (size : ℕ) → PlanAsked n T ws base query h → (call n T ws base query h buffer).answer ≡ success size
    → (es : List ℕ) → IsBest (score_on n ws base query) T h es → comes es (part_ends (plan_records (take size (call n T ws base query h buffer).buffer))) → ⊥

-- Every call that keeps the promise chooses by the order of numbers from the first on.
pub chooses-first : (call : ℕ → ℕ → List ℕ → ℕ → ℕ → ℕ → List ℕ → Delivered) → PlansShifts call → ChoosesBy ComesBefore call
chooses-first call p n T ws base query h buffer size a g = (ends-first call p buffer a size g).first

-- None that keeps it chooses by an order in which a best cutting of this day comes before the ends 0, 3 and 4:
other-order : (comes : List ℕ → List ℕ → Type 0) {es : List ℕ} → IsBest (score_on 3 ties_words (full 3) 1) 5 3 es → comes es (0 ∷ 3 ∷ 4 ∷ [])
    → (call : ℕ → ℕ → List ℕ → ℕ → ℕ → ℕ → List ℕ → Delivered) → ChoosesBy comes call → PlansShifts call → ⊥
other-order comes {es} b o call c p =
    let lent : List ℕ = replicate 58 0 in
    let k = narrow-succeeds call p lent ties-asked (omega arith) (omega (arith, length-replicate {A = ℕ} 58 0)) in
    c 3 5 ties_words (full 3) 1 3 lent _ ties-asked k es b (rw (ends_found call p lent ties-asked _ k ∙ ties-ends) o)

-- so none that takes the last of the best,
pub last-of-the-best : (call : ℕ → ℕ → List ℕ → ℕ → ℕ → ℕ → List ℕ → Delivered) → ChoosesBy (λ xs ys. ComesBefore ys xs) call → PlansShifts call → ⊥
last-of-the-best = other-order (λ xs ys. ComesBefore ys xs) last-best (Lexᴰ.rel (omega arith))

-- and none that takes the first, but compares the lists from the end.
pub compared-from-the-end : (call : ℕ → ℕ → List ℕ → ℕ → ℕ → ℕ → List ℕ → Delivered) → ChoosesBy (λ xs ys. ComesBefore (reverse xs) (reverse ys)) call → PlansShifts call → ⊥
compared-from-the-end = other-order (λ xs ys. ComesBefore (reverse xs) (reverse ys)) middle-best (Lexᴰ.cons refl (Lexᴰ.rel (omega arith)))
