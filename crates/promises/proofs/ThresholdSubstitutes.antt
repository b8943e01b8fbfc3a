-- Substitutes for the report under thresholds, each refuted on D1 from the promise that the call keeps (GroupReports in groups).
use mathlib.Core.Path.{◌≡◌, refl}
use mathlib.Core.Bool.{Bool, true}
use mathlib.Core.List.Memᴰ
use mathlib.Core.List.{List, [], ◌∷◌}
use Prim.Native.Nat.{ℕ, suc, ◌-◌}
use lib.Dec.{leb}
use Rattle.sets.specs.Bools.{◌and◌, ◌or◌, isnt, all}
use Rattle.sets.specs.Sets.{full}
use Rattle.sets.specs.Tables.{concat_below, keep_if}
use Rattle.sets.proofs.Sets.{sub_refl}
use Rattle.sets.proofs.Bools.{clash, same_test}
use Rattle.logs.specs.Buffers.{Delivered}
use Rattle.thresholds.specs.declared.Thresholds.{Thresholds}
use Rattle.spans.specs.Spans.{is_span}
use Rattle.spans.specs.SpanCores.{SpanCore, Mem, core_on, has_core}
use Rattle.spans.specs.Reports.{as_large, same, groups_of}
use Rattle.thresholds.specs.Ranges.{least_of, plain, in_range}
use Rattle.spans.specs.KeptGroups.{meets, kept}
use Rattle.spans.specs.CircleRecords.{circle_records, shown_records}
use Rattle.spans.specs.GroupStatement.{GroupStatement}
use Rattle.spans.proofs.KeptRecords.{in_kept, of-kept}
use Rattle.spans.proofs.Reviews.{all-reviewed}
use Rattle.groups.specs.GroupReports.{ReportsGroups}
use Rattle.promises.specs.D1.{d1_words}
use Rattle.promises.proofs.SmallDays.{computing, d1-lent, triple, couple, d1-records, all_four}
use Rattle.promises.proofs.ReportSubstitutes.{stated-shown}

-- no call that judges by other thresholds than it is given keeps the promise
abbrev Refuted : (Thresholds → Thresholds) → Type 0
Refuted other = (call : ℕ → ℕ → List ℕ → ℕ → Thresholds → List ℕ → Delivered) → ReportsGroups call (λ n T ws base l. shown_records n T ws base (other l)) → ⊥

-- So it is wherever that makes a difference to a record of D1, under any thresholds.
pub judged-by-others : (other : Thresholds → Thresholds) (given : Thresholds) (c : SpanCore) → in_range given ≡ true → Mem c (shown_records 4 3 d1_words (full 4) plain) → (meets (other given) c ≡ meets given c → ⊥) → Refuted other
unfolding shown_records
judged-by-others other given c r i h call p =
    let records = circle_records 4 d1_words (groups_of 4 3 d1_words (full 4)) in
    let j : Mem c records = (of-kept plain records i).0 in
    let e : kept (other given) records ≡ kept given records = stated-shown _ (p.stated 4 3 d1_words (full 4) given (record { lent = d1-lent; reviewed = all-reviewed d1-lent; range = r })) d1-lent (sub_refl _) in
    h (same_test (meets (other given) c) (meets given c)
    (λ m. let k = in_kept (other given) records j m in (of-kept given records (rw e at k)).1)
    (λ m. let k = in_kept given records j m in (of-kept (other given) records (rw (← e) at k)).1))

triple-there : Mem triple (shown_records 4 3 d1_words (full 4) plain)
triple-there = rw d1-records (Memᴰ.head refl)

couple-there : Mem couple (shown_records 4 3 d1_words (full 4) plain)
couple-there = rw d1-records (Memᴰ.tail (Memᴰ.head refl))

-- the least length: ignored, one too high, one too low
pub ticks-ignored : Refuted (λ l. least_of 1 l.order l.members)
unfolding computing
ticks-ignored = judged-by-others _ (least_of 3 1 2) triple refl triple-there (λ e. clash refl e)

pub ticks-above : Refuted (λ l. least_of (suc l.ticks) l.order l.members)
unfolding computing
ticks-above = judged-by-others _ (least_of 3 1 2) couple refl couple-there (λ e. clash e refl)

pub ticks-below : Refuted (λ l. least_of (l.ticks - 1) l.order l.members)
unfolding computing
ticks-below = judged-by-others _ (least_of 3 1 2) triple refl triple-there (λ e. clash refl e)

-- the least order
pub order-ignored : Refuted (λ l. least_of l.ticks 1 l.members)
unfolding computing
order-ignored = judged-by-others _ (least_of 1 2 2) couple refl couple-there (λ e. clash refl e)

pub order-above : Refuted (λ l. least_of l.ticks (suc l.order) l.members)
unfolding computing
order-above = judged-by-others _ (least_of 1 2 2) triple refl triple-there (λ e. clash e refl)

pub order_below : Refuted (λ l. least_of l.ticks (l.order - 1) l.members)
unfolding computing
order_below = judged-by-others _ (least_of 1 2 2) couple refl couple-there (λ e. clash refl e)

-- the least number of members
pub members-ignored : Refuted (λ l. least_of l.ticks l.order 2)
unfolding computing
members-ignored = judged-by-others _ (least_of 1 1 3) couple refl couple-there (λ e. clash refl e)

pub members-above : Refuted (λ l. least_of l.ticks l.order (suc l.members))
unfolding computing
members-above = judged-by-others _ (least_of 1 1 3) triple refl triple-there (λ e. clash e refl)

pub members-below : Refuted (λ l. least_of l.ticks l.order (l.members - 1))
unfolding computing
members-below = judged-by-others _ (least_of 1 1 3) couple refl couple-there (λ e. clash refl e)

-- With a least number of 4 members D1 has no record, though order 1 on 0 to 1 has a core of four.
pub four-none : (xs : List SpanCore) → GroupStatement 4 3 d1_words (full 4) (least_of 1 1 4) xs → xs ≡ []
unfolding computing
four-none xs s = stated-shown xs s d1-lent (sub_refl _)

-- Domination judged among the records that pass: of the cores that meet the thresholds, those that no other of these equals or exceeds in both order
-- and span, and of their circles those that meet them too.
unfoldable pub core_at : ℕ → List ℕ → ℕ → ℕ → ℕ → ℕ → SpanCore
core_at n ws base k first last = record { order = k; first = first; last = last; members = core_on n ws base k first last }

unfoldable pub passing : ℕ → List ℕ → ℕ → Thresholds → ℕ → ℕ → ℕ → Bool
passing n ws base l k first last = leb 1 k and has_core n ws base k first last and meets l (core_at n ws base k first last)

unfoldable pub undominated : ℕ → ℕ → List ℕ → ℕ → Thresholds → ℕ → ℕ → ℕ → Bool
undominated n T ws base l k first last = all (suc n) (λ k'. all T (λ first'. all T (λ last'.
    isnt (is_span T first' last' and as_large k first last k' first' last' and passing n ws base l k' first' last') or same k first last k' first' last')))

unfoldable pub filtered_cores : ℕ → ℕ → List ℕ → ℕ → Thresholds → List SpanCore
filtered_cores n T ws base l = concat_below T (λ first. concat_below T (λ last. concat_below (suc n) (λ k.
    keep_if (leb first last and passing n ws base l k first last and undominated n T ws base l k first last) (core_at n ws base k first last ∷ []))))

unfoldable pub filtered_first : ℕ → ℕ → List ℕ → ℕ → Thresholds → List SpanCore
filtered_first n T ws base l = kept l (circle_records n ws (filtered_cores n T ws base l))

shows-four : filtered_first 4 3 d1_words (full 4) (least_of 1 1 4) ≡ all_four ∷ []
unfolding computing filtered_first filtered_cores undominated passing core_at
shows-four = refl

pub domination-after-filter : (call : ℕ → ℕ → List ℕ → ℕ → Thresholds → List ℕ → Delivered) → ReportsGroups call filtered_first → ⊥
unfolding computing
domination-after-filter call p =
    let none = four-none _ (p.stated 4 3 d1_words (full 4) (least_of 1 1 4) (record { lent = d1-lent; reviewed = all-reviewed d1-lent; range = refl })) in
    let there : Mem all_four (filtered_first 4 3 d1_words (full 4) (least_of 1 1 4)) = rw shows-four (Memᴰ.head refl) in
    Memᴰ.not-nil (rw none at there)
