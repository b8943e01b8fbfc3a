-- What the public calls answer and leave in the slices that were lent, for every input, by the order of documents 01 and 02.
use Rattle.std.specs.Prelude.{List, ℕ}
use Rattle.records.specs.Outcomes.{and_then}
use Rattle.logs.specs.Buffers.{Delivered, deliver}
use Rattle.thresholds.specs.declared.Thresholds.{Thresholds}
use Rattle.spans.specs.Judging.{review_of, span_judged, report_judged, plan_judged}

-- core numbers: 10, 8, 11, 20, 12, 9
unfoldable pub core_numbers_of : ℕ → ℕ → List ℕ → ℕ → ℕ → ℕ → List ℕ → Delivered
core_numbers_of n T ws base first last buffer = deliver (and_then (review_of n T ws base) (λ x. span_judged n T ws base first last)) buffer

-- report: 10, 8, 11, 20, 17, 9
unfoldable pub report_of : ℕ → ℕ → List ℕ → ℕ → Thresholds → List ℕ → Delivered
report_of n T ws base least buffer = deliver (and_then (review_of n T ws base) (λ x. report_judged n T ws base least)) buffer

-- plan: 10, 8, 11, 20, 13, 21, 14, 9
unfoldable pub plan_of : ℕ → ℕ → List ℕ → ℕ → ℕ → ℕ → List ℕ → Delivered
plan_of n T ws base query h buffer = deliver (and_then (review_of n T ws base) (λ x. plan_judged n T ws base query h)) buffer
