-- What a review is held against: the calls as they were without one, and the day without the contacts of the badges that are not under review.
use Rattle.std.specs.Prelude.{List, ℕ, zero, suc}
use Rattle.sets.specs.Bools.{◌and◌, isnt}
use Rattle.sets.specs.Sets.{has, full}
use Rattle.records.specs.Outcomes.{Outcome, success, refuse_if, and_then}
use Rattle.days.specs.Days.{adjacent, day_words}
use Rattle.days.specs.Calls.{check_of}
use Rattle.logs.specs.Buffers.{Delivered, deliver}
use Rattle.thresholds.specs.declared.Thresholds.{Thresholds}
use Rattle.spans.specs.SpanCores.{SpanCore}
use Rattle.spans.specs.Plans.{parts_of, is_query, is_parts}
use Rattle.spans.specs.Encoding.{plan_bytes}
use Rattle.spans.specs.Judging.{span_judged, report_judged}

-- The calls before there was a review: among all n badges. "Calls on words: 10, 8, 11 first, then core numbers 12, 9; report 9; plan 13, 14, 9", and 17
-- before the report's 9.
unfoldable pub core_numbers_of_all : ℕ → ℕ → List ℕ → ℕ → ℕ → List ℕ → Delivered
core_numbers_of_all n T ws first last buffer = deliver (and_then (check_of n T ws) (λ x. span_judged n T ws (full n) first last)) buffer

unfoldable pub report_of_all : ℕ → ℕ → List ℕ → Thresholds → List ℕ → Delivered
report_of_all n T ws least buffer = deliver (and_then (check_of n T ws) (λ x. report_judged n T ws (full n) least)) buffer

unfoldable pub plan_judged_of_all : ℕ → ℕ → List ℕ → ℕ → ℕ → Outcome (List ℕ)
plan_judged_of_all n T ws query h = refuse_if (isnt (is_query n query)) 13 0 (refuse_if (isnt (is_parts T h)) 14 0 (success (plan_bytes n T h query (parts_of n T ws (full n) query h))))

unfoldable pub plan_of_all : ℕ → ℕ → List ℕ → ℕ → ℕ → List ℕ → Delivered
plan_of_all n T ws query h buffer = deliver (and_then (check_of n T ws) (λ x. plan_judged_of_all n T ws query h)) buffer

-- the words of the day without the contacts of badges that are not under review
unfoldable pub leaving_out : ℕ → ℕ → List ℕ → ℕ → List ℕ
leaving_out n T ws base = day_words n T (λ t u v. has base u and has base v and adjacent n ws t u v)

-- a part with a set in the place of its members where its score is 0
unfoldable pub members_at : ℕ → ℕ → ℕ → ℕ
members_at s zero members = s
members_at s (suc k) members = members

unfoldable pub at_score_zero : ℕ → SpanCore → SpanCore
at_score_zero s p = record { order = p.order; first = p.first; last = p.last; members = members_at s p.order p.members }
