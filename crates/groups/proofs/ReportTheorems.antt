-- Theorems of the report: the call's promise, as it stands in specs/GroupReports, holds; and what each of its buffers says.
use mathlib.Core.Path.{◌≡◌, refl, sym, ap, ◌∙◌}
use mathlib.Core.Bool.{true, false}
use mathlib.Core.List.{List, ◌++◌}
use Prim.Native.Nat.{ℕ, ◌≤◌, ◌<◌}
use lib.ListN.{length, take, drop}
use Rattle.sets.specs.Bools.{◌and◌}
use Rattle.records.specs.Outcomes.{Outcome, refused, success, and_then}
use Rattle.records.proofs.Outcomes.{success-same, refuse-passed, then-passed}
use Rattle.days.specs.Days.{LentDay}
use Rattle.logs.specs.Buffers.{deliver}
use Rattle.logs.proofs.Delivering.{deliver-refused, deliver-passed, deliver-short, deliver-fits, deliver-success}
use Rattle.thresholds.specs.declared.Thresholds.{Thresholds}
use Rattle.thresholds.specs.Ranges.{plain, in_range}
use Rattle.spans.specs.Reviews.{Review}
use Rattle.spans.specs.SpanCores.{SpanCore}
use Rattle.spans.specs.Reports.{groups_of}
use Rattle.spans.specs.CircleRecords.{circle_records, shown_records}
use Rattle.spans.specs.Encoding.{report_bytes, report_records}
use Rattle.spans.specs.GroupStatement.{GroupStatement}
use Rattle.spans.specs.Judging.{review_of, report_judged}
use Rattle.spans.proofs.CircleStated.{report-stated}
use Rattle.spans.proofs.GroupedRecords.{plain-all}
use Rattle.spans.proofs.MostRecords.{shown-said}
use Rattle.spans.proofs.Judging.{review-passed, review-day, judged-range, judged-report}
use Rattle.groups.specs.Appending.{shown_bytes}
use Rattle.groups.specs.Calls.{report_of}
use Rattle.groups.specs.GroupReports.{ReportsGroups, Reported}

-- a day and a review of it are reported as the thresholds are judged
module _ (n T : ℕ) (ws : List ℕ) (base : ℕ) (least : Thresholds) (buffer : List ℕ) (d : LentDay n T ws) (r : Review n base) where
  passes : {o : Outcome (List ℕ)} → report_judged n T ws base least ≡ o → report_of n T ws base least buffer ≡ deliver o buffer
  unfolding report_of
  passes e = deliver-passed _ _ buffer tt (review-passed n T ws base d r) ∙ ap (λ (o : Outcome (List ℕ)). deliver o buffer) e

  pub report-judges : in_range least ≡ false → report_of n T ws base least buffer ≡ record { answer = refused 17 0; buffer = buffer }
  unfolding deliver
  report-judges e = passes (judged-range n T ws base least e)

  pub report-succeeds : in_range least ≡ true → length (shown_bytes n T ws base least) ≤ length buffer
      → report_of n T ws base least buffer ≡ record { answer = success (length (shown_bytes n T ws base least)); buffer = shown_bytes n T ws base least ++ drop (length (shown_bytes n T ws base least)) buffer }
  report-succeeds e h = passes (judged-report n T ws base least e) ∙ deliver-fits _ buffer h

  pub report-measures : in_range least ≡ true → length buffer < length (shown_bytes n T ws base least) → report_of n T ws base least buffer ≡ record { answer = refused 9 0; buffer = buffer }
  report-measures e h = passes (judged-report n T ws base least e) ∙ deliver-short _ buffer h

-- The call keeps its promise.
pub reports-groups : ReportsGroups report_of shown_records
reports-groups = record {
  stated = λ n T ws base least a. report-stated a.lent a.reviewed.named;
  said = λ n T ws base least a. shown-said a.lent a.reviewed.named least;
  succeeds = λ n T ws base least buffer a. report-succeeds n T ws base least buffer a.lent a.reviewed a.range;
  measures = λ n T ws base least buffer a. report-measures n T ws base least buffer a.lent a.reviewed a.range;
  judges = λ n T ws base least buffer d. report-judges n T ws base least buffer d;
}

-- "With 1, 1 and 2 it is the plain report", for every input: all circles of all maximal cores.
pub report-plain : (n T : ℕ) (ws : List ℕ) (base : ℕ) (buffer : List ℕ)
    → report_of n T ws base plain buffer ≡ deliver (and_then (review_of n T ws base) (λ x. success (report_bytes n T (circle_records n ws (groups_of n T ws base))))) buffer
unfolding report_of in_range ◌and◌
report-plain n T ws base buffer = go (review_of n T ws base) refl
  where
    go : (o : Outcome (Unit {0})) → review_of n T ws base ≡ o
        → deliver (and_then (review_of n T ws base) (λ x. report_judged n T ws base plain)) buffer ≡ deliver (and_then (review_of n T ws base) (λ x. success (report_bytes n T (circle_records n ws (groups_of n T ws base))))) buffer
    go (refused a b) e = deliver-refused _ _ buffer a b e ∙ sym (deliver-refused _ _ buffer a b e)
    go (success x) e =
        let d = review-day n T ws base e in
        deliver-passed _ _ buffer x e
        ∙ ap (λ (o : Outcome (List ℕ)). deliver o buffer) (judged-report n T ws base plain refl ∙ ap (λ (cs : List SpanCore). success (report_bytes n T cs)) (plain-all d.0 d.1.named))
        ∙ sym (deliver-passed _ _ buffer x e)

-- So whatever was lent: where the call succeeds, the bytes in front say records of which the group statement holds.
pub reported : (n T : ℕ) (ws : List ℕ) (base : ℕ) (least : Thresholds) (lent : List ℕ) (answer : Outcome ℕ) (left : List ℕ) → answer ≡ (report_of n T ws base least lent).answer → left ≡ (report_of n T ws base least lent).buffer
    → Reported n T ws base least answer left
unfolding report_of report_judged
reported n T ws base least lent answer left e f = record { groups = shown }
  where
    shown : (size : ℕ) → answer ≡ success size → GroupStatement n T ws base least (report_records (take size left))
    shown size g =
        let d = deliver-success (and_then (review_of n T ws base) (λ x. report_judged n T ws base least)) lent size (sym e ∙ g) in
        let c = then-passed _ _ d.1 in
        let r = refuse-passed _ _ _ _ c.2 in
        let l = review-day n T ws base c.1 in
        rw (f, d.2, sym (success-same r.1), shown-said l.0 l.1.named least) (report-stated l.0 l.1.named)
