-- What the calls on words judge before 9, in the order of documents 01 and 02, and the exact answers in bytes.
use Rattle.std.specs.Prelude.{List, ℕ}
use Rattle.sets.specs.Bools.{isnt}
use Rattle.sets.specs.Tables.{tabulate}
use Rattle.records.specs.Outcomes.{Outcome, success, refuse_if, and_then}
use Rattle.days.specs.Calls.{check_of}
use Rattle.cores.specs.Orders.{core_number}
use Rattle.thresholds.specs.declared.Thresholds.{Thresholds}
use Rattle.thresholds.specs.Ranges.{in_range}
use Rattle.spans.specs.Spans.{is_span, span_neighbours}
use Rattle.spans.specs.Reviews.{is_review}
use Rattle.spans.specs.CircleRecords.{shown_records}
use Rattle.spans.specs.Plans.{parts_of, is_query, is_reviewed_query, is_parts}
use Rattle.spans.specs.Encoding.{report_bytes, plan_bytes}

-- What the calls on words judge first: the words, and then the set of badges under review. "20, the set is empty or has a badge of n or more,
-- directly after 11 and so before 12, 13 and 17."
unfoldable pub review_of : ℕ → ℕ → List ℕ → ℕ → Outcome (Unit {0})
review_of n T ws base = and_then (check_of n T ws) (λ x. refuse_if (isnt (is_review n base)) 20 0 (success tt))

-- "core numbers (day words and a span to n bytes)": the core number of each of the n badges on the span, among the reviewed badges. "Others have core
-- number 0": they are in no core.
unfoldable pub core_number_bytes : ℕ → List ℕ → ℕ → ℕ → ℕ → List ℕ
core_number_bytes n ws base first last = tabulate n (core_number (span_neighbours n ws first last) base)

-- the span is judged, and then the bytes are worked out. "12: span with first after last, or last of T or more."
unfoldable pub span_judged : ℕ → ℕ → List ℕ → ℕ → ℕ → ℕ → Outcome (List ℕ)
span_judged n T ws base first last = refuse_if (isnt (is_span T first last)) 12 0 (success (core_number_bytes n ws base first last))

-- The thresholds are judged, and then the bytes are worked out, of the records that meet them. "17, a threshold outside its range, after 11 and
-- before 9." Which cores are maximal is judged over all cores of reviewed badges: "domination is judged before the filter".
unfoldable pub report_judged : ℕ → ℕ → List ℕ → ℕ → Thresholds → Outcome (List ℕ)
report_judged n T ws base least = refuse_if (isnt (in_range least)) 17 0 (success (report_bytes n T (shown_records n T ws base least)))

-- The query and the number of parts are judged, and then the bytes are worked out. "13: the query has a badge of n or more. 14: h is 0 or above T."
-- "21, the query has a badge outside it, between 13 and 14."
unfoldable pub plan_judged : ℕ → ℕ → List ℕ → ℕ → ℕ → ℕ → Outcome (List ℕ)
plan_judged n T ws base query h = refuse_if (isnt (is_query n query)) 13 0 (refuse_if (isnt (is_reviewed_query base query)) 21 0
    (refuse_if (isnt (is_parts T h)) 14 0 (success (plan_bytes n T h query (parts_of n T ws base query h)))))
