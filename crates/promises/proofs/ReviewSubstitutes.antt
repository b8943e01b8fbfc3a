-- Substitutes for a review of badges, each refuted on D1 without badge 2, where badges 0 and 1 are in contact in ticks 0 and 1, and no others.
use mathlib.Core.Path.{◌≡◌, refl, sym, ap, subst, ◌∙◌}
use mathlib.Core.List.Memᴰ
use mathlib.Core.List.{List, [], ◌∷◌, map}
use mathlib.Core.Logic.{⊎_elim}
use Prim.Native.Nat.{ℕ, ◌≤◌}
use native.Mathlib.Omega.{arith}
use lib.ListN.{get_or, take, replicate, length-replicate}
use Rattle.sets.specs.Sets.{In, Sub, intersection, full}
use Rattle.sets.proofs.Sets.{in-test, out-test, is-sub-of}
use Rattle.records.specs.Outcomes.{success}
use Rattle.logs.specs.Buffers.{Delivered}
use Rattle.thresholds.specs.declared.Thresholds.{Thresholds}
use Rattle.thresholds.specs.Ranges.{plain}
use Rattle.spans.specs.Reviews.{Review}
use Rattle.spans.specs.SpanCores.{SpanCore, Mem}
use Rattle.spans.specs.Reports.{groups_of}
use Rattle.spans.specs.KeptGroups.{kept}
use Rattle.spans.specs.CircleRecords.{with_members, circle_records, shown_records}
use Rattle.spans.specs.Plans.{parts_of}
use Rattle.spans.specs.Encoding.{plan_records}
use Rattle.spans.specs.GroupStatement.{ReportAsked}
use Rattle.spans.specs.CoreStatement.{Has}
use Rattle.spans.specs.PlanStatement.{Runs, none, run, sum_of_orders, PlanAsked}
use Rattle.spans.proofs.Reviews.{review-of, all-reviewed}
use Rattle.spans.proofs.KeptRecords.{of-kept}
use Rattle.spans.proofs.RecordLists.{of-circle-records}
use Rattle.spans.proofs.StatedRecords.{of-day}
use Rattle.spans.proofs.PlanParts.{parts-stated}
use Rattle.groups.specs.GroupReports.{ReportsGroups}
use Rattle.groups.specs.ShiftPlans.{PlansShifts}
use Rattle.promises.specs.CoreNumbers.{GivesCoreNumbers}
use Rattle.promises.specs.D1.{d1_words}
use Rattle.promises.proofs.SmallDays.{computing, d1-lent, d1-plain, triple, d1-groups}
use Rattle.promises.proofs.NumberSubstitutes.{d1-span, promised-numbers}
use Rattle.promises.proofs.ReportSubstitutes.{stated-shown, d1-triple, same-records}
use Rattle.promises.proofs.PlanPromise.{sums_same, plan-kept, narrow-succeeds}

-- D1's badges without 2
abbrev others : ℕ
others = 11

reviewed : Review 4 others
unfolding computing
reviewed = review-of 4 others refl

others-plain : ReportAsked 4 3 d1_words others plain
unfolding computing
others-plain = record { lent = d1-lent; reviewed = reviewed; range = refl }

-- badge 2 is one of the triple and of all four badges, and none of those under review
not-two : In others 2 → ⊥
unfolding computing
not-two = out-test others 2 refl

two-of-triple : In triple.members 2
unfolding computing
two-of-triple = in-test 7 2 refl

two-of-all : In (full 4) 2
unfolding computing
two-of-all = in-test (full 4) 2 refl

-- ---- a call that ignores the set

-- core numbers
pub numbers-ignoring : (f : ℕ → ℕ → List ℕ → ℕ → ℕ → List ℕ → Delivered) → GivesCoreNumbers (λ n T ws base first last buffer. f n T ws first last buffer) → ⊥
unfolding computing
numbers-ignoring f p =
    let call : ℕ → ℕ → List ℕ → ℕ → ℕ → ℕ → List ℕ → Delivered = λ n T ws base first last buffer. f n T ws first last buffer in
    let lent : List ℕ = 0 ∷ 0 ∷ 0 ∷ 0 ∷ [] in
    let a : (f 4 3 d1_words 0 1 lent).buffer ≡ 2 ∷ 2 ∷ 2 ∷ 1 ∷ [] = ap (λ (x : Delivered). x.buffer) (promised-numbers call p 4 3 d1_words (full 4) 0 1 lent d1-span (all-reviewed d1-lent) (omega arith)) in
    let b : (f 4 3 d1_words 0 1 lent).buffer ≡ 1 ∷ 1 ∷ 0 ∷ 0 ∷ [] = ap (λ (x : Delivered). x.buffer) (promised-numbers call p 4 3 d1_words others 0 1 lent d1-span reviewed (omega arith)) in
    let z : ◌≡◌ {A = ℕ} 2 1 = ap (λ (l : List ℕ). get_or l 0 0) (sym a ∙ b) in
    omega arith

-- the report, whatever records the promise is made of
pub report-ignoring : (f : ℕ → ℕ → List ℕ → Thresholds → List ℕ → Delivered) (groups : ℕ → ℕ → List ℕ → ℕ → Thresholds → List SpanCore)
    → ReportsGroups (λ n T ws base least buffer. f n T ws least buffer) groups → ⊥
report-ignoring f groups p =
    let there : Mem triple (groups 4 3 d1_words others plain) = rw (same-records p d1-plain others-plain (λ buffer. refl)) at (d1-triple _ (p.stated 4 3 d1_words (full 4) plain d1-plain)) in
    not-two ((of-day reviewed.named (p.stated 4 3 d1_words others plain others-plain) triple there).within.at 2 two-of-triple)

-- the plan: around badge 0 in three parts the sum is 4 with badge 2, and 2 without it
zero-asked : (base : ℕ) → Review 4 base → Sub 1 base → PlanAsked 4 3 d1_words base 1 3
zero-asked base r s = record { lent = d1-lent; reviewed = r; named = s; some = omega arith; enough = omega arith }

all_asked : PlanAsked 4 3 d1_words (full 4) 1 3
unfolding computing
all_asked = zero-asked (full 4) (all-reviewed d1-lent) (is-sub-of 1 (full 4) refl)

others-asked : PlanAsked 4 3 d1_words others 1 3
unfolding computing
others-asked = zero-asked others reviewed (is-sub-of 1 others refl)

all-sum : sum_of_orders (parts_of 4 3 d1_words (full 4) 1 3) ≡ 4
unfolding computing
all-sum = refl

others-sum : sum_of_orders (parts_of 4 3 d1_words others 1 3) ≡ 2
unfolding computing
others-sum = refl

pub plan-ignoring : (f : ℕ → ℕ → List ℕ → ℕ → ℕ → List ℕ → Delivered) → PlansShifts (λ n T ws base query h buffer. f n T ws query h buffer) → ⊥
plan-ignoring f p =
    let call : ℕ → ℕ → List ℕ → ℕ → ℕ → ℕ → List ℕ → Delivered = λ n T ws base query h buffer. f n T ws query h buffer in
    let lent : List ℕ = replicate 58 0 in
    let k = narrow-succeeds call p lent all_asked (omega arith) (omega (arith, length-replicate {A = ℕ} 58 0)) in
    let a = sums_same _ _ (plan-kept call p lent all_asked _ k) (parts-stated all_asked) in
    let b = sums_same _ _ (plan-kept call p lent others-asked _ k) (parts-stated others-asked) in
    omega (arith, all-sum, others-sum)

-- ---- the full report's records, with other members

-- 0 and 1 on 0 to 1: a record of the report without badge 2, and of an order and span that no core of the full report has
abbrev pair : SpanCore
pair = record { order = 1; first = 0; last = 1; members = 3 }

others-records : shown_records 4 3 d1_words others plain ≡ pair ∷ []
unfolding computing
others-records = refl

pair-new : (d : SpanCore) → Mem d (groups_of 4 3 d1_words (full 4)) → Has pair d.order d.first d.last → ⊥
pair-new d i h = ⊎_elim
    (λ e. omega (arith, h.its_order, ap (λ (x : SpanCore). x.order) e))
    (λ j. omega (arith, h.its_last, ap (λ (x : SpanCore). x.last) (Memᴰ.eq_of_singleton j)))
    (Memᴰ.cases_cons (rw d1-groups at i))

-- No call whose records have orders and spans of the full report's cores alone, with whatever members.
pub from-the-full-report : (call : ℕ → ℕ → List ℕ → ℕ → Thresholds → List ℕ → Delivered) (groups : ℕ → ℕ → List ℕ → ℕ → Thresholds → List SpanCore)
    → ((n T : ℕ) (ws : List ℕ) (base : ℕ) (least : Thresholds) (c : SpanCore) → Mem c (groups n T ws base least) → (d : SpanCore) × Mem d (groups_of n T ws (full n)) × Has c d.order d.first d.last)
    → ReportsGroups call groups → ⊥
from-the-full-report call groups from p =
    let there : Mem pair (groups 4 3 d1_words others plain) =
    rw (stated-shown _ (p.stated 4 3 d1_words others plain others-plain) d1-lent reviewed.named, others-records) (Memᴰ.head refl) in
    let x = from 4 3 d1_words others plain pair there in
    pair-new x.0 x.1 x.2

-- So none that filters the members of the full report, whether of its records or of its cores before they are split.
unfoldable pub among : ℕ → SpanCore → SpanCore
among base c = with_members c (intersection c.members base)

-- a record that differs from another in its members alone has the order and span that the other has
with-has : {c : SpanCore} (d : SpanCore) {k first last : ℕ} (s : ℕ) → with_members d s ≡ c → Has d k first last → Has c k first last
with-has d {k} {first} {last} s e h = subst (λ (x : SpanCore). Has x k first last) e (record { its_order = h.its_order; its_first = h.its_first; its_last = h.its_last })

of-among : (base : ℕ) (cs : List SpanCore) {c : SpanCore} → Mem c (map (among base) cs) → (d : SpanCore) × Mem d cs × Has c d.order d.first d.last
unfolding among
of-among base cs i = let r = Memᴰ.of_map (among base) cs i in (r.0, r.1, with-has r.0 _ r.2 (record { its_order = refl; its_first = refl; its_last = refl }))

pub filtered-members : (call : ℕ → ℕ → List ℕ → ℕ → Thresholds → List ℕ → Delivered)
    → ReportsGroups call (λ n T ws base least. kept least (map (among base) (shown_records n T ws (full n) plain))) → ⊥
unfolding shown_records
filtered-members call p = from-the-full-report call _ (λ n T ws base least c i.
    let d = of-among base _ (of-kept least _ i).0 in
    let r = of-circle-records n ws _ (of-kept plain _ d.1).0 in
    (r.0, r.1, rw (← r.2.same) at d.2)) p

pub filtered-cores : (call : ℕ → ℕ → List ℕ → ℕ → Thresholds → List ℕ → Delivered)
    → ReportsGroups call (λ n T ws base least. kept least (circle_records n ws (map (among base) (groups_of n T ws (full n))))) → ⊥
filtered-cores call p = from-the-full-report call _ (λ n T ws base least c i.
    let r = of-circle-records n ws _ (of-kept least _ i).0 in
    let d = of-among base _ r.1 in
    (d.0, d.1, with-has r.0 _ r.2.same d.2)) p

-- ---- a part of score 0 that shows all n badges

one-asked : PlanAsked 4 3 d1_words others 1 1
unfolding computing
one-asked = record { lent = d1-lent; reviewed = reviewed; named = is-sub-of 1 others refl; some = omega arith; enough = omega arith }

one-sum : sum_of_orders (parts_of 4 3 d1_words others 1 1) ≡ 0
unfolding computing
one-sum = refl

-- the first of some runs, whose order is no more than the sum
first_part : {T h t : ℕ} {ps : List SpanCore} → Runs T h t ps → 1 ≤ h → (p : SpanCore) × Mem p ps × (p.order ≤ sum_of_orders ps)
unfolding sum_of_orders
first_part none l = absurd (omega arith)
first_part (run {p = p} m r) l = (p, Memᴰ.head refl, omega arith)

pub all-at-score-zero : (call : ℕ → ℕ → List ℕ → ℕ → ℕ → ℕ → List ℕ → Delivered)
    → ((n T : ℕ) (ws : List ℕ) (base query h : ℕ) (buffer : List ℕ) (size : ℕ) → PlanAsked n T ws base query h → (call n T ws base query h buffer).answer ≡ success size
    → (p : SpanCore) → Mem p (plan_records (take size (call n T ws base query h buffer).buffer)) → p.order ≡ 0 → p.members ≡ full n)
    → PlansShifts call → ⊥
all-at-score-zero call all p =
    let lent : List ℕ = replicate 32 0 in
    let k = narrow-succeeds call p lent one-asked (omega arith) (omega (arith, length-replicate {A = ℕ} 32 0)) in
    let s = plan-kept call p lent one-asked _ k in
    let x = first_part s.cutting.runs (omega arith) in
    let zero : x.0.order ≡ 0 = omega (arith, x.2, sums_same _ _ s (parts-stated one-asked), one-sum) in
    let members = all 4 3 d1_words others 1 1 lent _ one-asked k x.0 x.1 zero in
    not-two ((s.cutting.within x.0 x.1).at 2 (rw members two-of-all))
