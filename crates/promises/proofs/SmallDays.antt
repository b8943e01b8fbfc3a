-- Days of four badges and three ticks, by which substitutes are refuted: document 01's D1, and a day without contacts.
use mathlib.Core.Path.{◌≡◌, refl}
use mathlib.Core.List.{List, [], ◌∷◌}
use Prim.Native.Nat.{ℕ}
use native.Mathlib.Omega.{arith}
use lib.ListN.{replicate}
use Rattle.sets.specs.Words.{set_at, from_words, to_words, words_of}
use Rattle.sets.specs.Bools.{◌and◌, ◌or◌, isnt, all}
use Rattle.sets.specs.Sets.{bit, is_sub, intersection, difference, set_of, full, filter_in, filter, size_in, size, smallest}
use Rattle.sets.specs.Tables.{tabulate, concat_below, keep_if}
use Rattle.records.specs.Limits.{within_limits, words_for}
use Rattle.records.specs.Outcomes.{refuse_if, and_then}
use Rattle.days.specs.Days.{LentDay, neighbours, adjacent, is_tick, is_day}
use Rattle.days.specs.Calls.{check_of}
use Rattle.days.proofs.Scan.{day-of}
use Rattle.logs.specs.Buffers.{deliver}
use Rattle.cores.specs.Graphs.{degree}
use Rattle.cores.specs.Cores.{strip, strips, core}
use Rattle.cores.specs.Orders.{largest, core_number, contains, score}
use Rattle.circles.specs.Circles.{reaches, grow, grows, circle, first_circle, circles_in, circles}
use Rattle.cuts.specs.Sums.{first_greatest, sum_with, best_sum, end_after, ends_from, best_ends}
use Rattle.spans.specs.Spans.{is_span, throughout, span_neighbours}
use Rattle.spans.specs.Contacts.{fellows}
use Rattle.spans.specs.SpanCores.{SpanCore, core_on, has_core}
use Rattle.spans.specs.Reports.{as_large, same, is_maximal, is_group, groups_on, groups_from, groups_of}
use Rattle.thresholds.specs.Ranges.{plain, in_range, are_enough}
use Rattle.spans.specs.KeptGroups.{meets, kept}
use Rattle.spans.specs.CircleRecords.{circles_of, records_of, circle_records, shown_records}
use Rattle.spans.specs.GroupStatement.{ReportAsked}
use Rattle.spans.specs.Reviews.{is_review}
use Rattle.spans.proofs.Reviews.{all-reviewed}
use Rattle.spans.specs.Plans.{score_on, part_on, parts_from, parts_of}
use Rattle.spans.specs.PlanStatement.{sum_of_orders}
use Rattle.spans.specs.Judging.{review_of, core_number_bytes, span_judged}
use Rattle.promises.specs.D1.{badges, d1_words}
use Rattle.groups.specs.Calls.{core_numbers_of}

-- as many words as D1 has, without contacts
unfoldable pub still : List ℕ
still = replicate (words_for 4 3) 0

-- all that is computed with
unfoldable pub computing : ℕ
unfolding badges d1_words still ◌and◌ ◌or◌ isnt all bit intersection difference set_of full filter_in filter size_in size smallest tabulate within_limits refuse_if and_then neighbours adjacent is_tick is_day deliver check_of degree strip strips core largest core_number is_span throughout span_neighbours core_number_bytes span_judged review_of is_review core_numbers_of concat_below keep_if core_on has_core as_large same is_maximal is_group groups_on groups_from groups_of in_range are_enough meets kept reaches grow grows circle first_circle circles_in circles circles_of records_of circle_records shown_records is_sub contains score score_on part_on parts_from parts_of fellows first_greatest sum_with best_sum end_after ends_from best_ends sum_of_orders set_at from_words to_words words_of
computing = 0

-- both are lent days
pub d1-lent : LentDay 4 3 d1_words
unfolding computing
d1-lent = record { limits = refl; enough = omega arith; day = day-of 4 3 d1_words refl }

pub still-lent : LentDay 4 3 still
unfolding computing
still-lent = record { limits = refl; enough = omega arith; day = day-of 4 3 still refl }

-- of which the plain report may be asked for, with all badges under review
pub d1-plain : ReportAsked 4 3 d1_words (full 4) plain
unfolding computing
d1-plain = record { lent = d1-lent; reviewed = all-reviewed d1-lent; range = refl }

pub still-plain : ReportAsked 4 3 still (full 4) plain
unfolding computing
still-plain = record { lent = still-lent; reviewed = all-reviewed still-lent; range = refl }

-- D1's groups, with all badges under review, each of which is one circle
abbrev pub triple : SpanCore
triple = record { order = 2; first = 0; last = 1; members = 7 }

abbrev pub couple : SpanCore
couple = record { order = 1; first = 0; last = 2; members = 12 }

pub d1-groups : groups_of 4 3 d1_words (full 4) ≡ triple ∷ couple ∷ []
unfolding computing
d1-groups = refl

pub d1-records : shown_records 4 3 d1_words (full 4) plain ≡ triple ∷ couple ∷ []
unfolding computing
d1-records = refl

-- the core of order 1 on 0 to 1, which is not maximal
abbrev pub all_four : SpanCore
all_four = record { order = 1; first = 0; last = 1; members = 15 }
