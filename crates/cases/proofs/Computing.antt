-- All definitions that the rows of the tables compute with, under one name.
use Prim.Native.Nat.{ℕ}
use Rattle.sets.specs.Bools.{◌and◌, ◌or◌, isnt, all}
use Rattle.sets.specs.Sets.{bit, is_sub, intersection, union, difference, only, set_of, full, filter_in, filter, size_in, size, smallest}
use Rattle.sets.specs.Bytes.{little_endian, from_little_endian}
use Rattle.sets.specs.Tables.{tabulate, concat_below, keep_if, piecewise}
use Rattle.sets.specs.Words.{from_words, to_words, set_at, words_of}
use Rattle.records.specs.Limits.{within_limits}
use Rattle.records.specs.Records.{fields_of, encode, encode_all, is_mark, mark_from, record_from, decode_marked, decode}
use Rattle.records.specs.Outcomes.{refuse_if, and_then}
use Rattle.records.specs.Judging.{valid_contact, judge_kind, judge_values, judge_decoded, judge_record, prepend, judge_in, judge_from, judge}
use Rattle.records.specs.Meaning.{badges_of, ticks_of, contacts_of, covers, in_contact}
use Rattle.records.specs.Verdicts.{values_of}
use Rattle.records.specs.Logs.{log_records}
use Rattle.days.specs.Days.{neighbours, adjacent, tick_sets, day_sets, day_words, day_of, is_tick, is_day}
use Rattle.days.specs.Calls.{read_judged, read_of, check_of}
use Rattle.series.specs.Series.{parts, judge_logs, badges_in, ticks_in, have_size, judge_series, common_size}
use Rattle.receivers.specs.Joining.{sum, joinable, judge_join, heard_by, quorum, joined_day, join_judged, join_of}
use Rattle.logs.specs.Tidy.{run_start, run_ends, run_at, runs_of, row_runs, tidy_contacts, tidy_log}
use Rattle.logs.specs.Buffers.{deliver}
use Rattle.logs.specs.Calls.{write_judged, write_of, tidy_before9, tidy_of}
use Rattle.chains.specs.Sweep.{overlap, spread, source_from, ticks_first, passing, newly, tick_after, source_after, trace_bytes}
use Rattle.chains.specs.Judging.{is_start, start_judged, trace_judged}
use Rattle.trace.specs.Calls.{trace_of}
use Rattle.cores.specs.Graphs.{degree}
use Rattle.cores.specs.Cores.{strip, strips, core}
use Rattle.cores.specs.Orders.{largest, core_number, contains, score}
use Rattle.circles.specs.Circles.{reaches, grow, grows, circle, first_circle, circles_in, circles}
use Rattle.cuts.specs.Sums.{first_greatest, sum_with, best_sum, end_after, ends_from, best_ends}
use Rattle.spans.specs.Spans.{is_span, throughout, span_neighbours}
use Rattle.spans.specs.SpanCores.{core_on, has_core}
use Rattle.spans.specs.Reports.{as_large, same, is_maximal, is_group, groups_on, groups_from, groups_of}
use Rattle.thresholds.specs.Ranges.{in_range, are_enough}
use Rattle.spans.specs.KeptGroups.{meets, kept}
use Rattle.spans.specs.CircleRecords.{circles_of, records_of, circle_records, shown_records}
use Rattle.spans.specs.Reviews.{is_review}
use Rattle.spans.specs.Plans.{score_on, members_on, part_on, parts_from, parts_of, is_query, is_reviewed_query, is_parts}
use Rattle.spans.specs.PlanStatement.{sum_of_orders}
use Rattle.spans.specs.Encoding.{form_of, encode_core, encode_cores, report_bytes, plan_bytes}
use Rattle.spans.specs.Judging.{review_of, core_number_bytes, span_judged, report_judged, plan_judged}
use Rattle.groups.specs.Calls.{core_numbers_of, report_of, plan_of}
use Rattle.text.specs.Decimal.{decimal_in, decimal}
use Rattle.text.specs.Listing.{field, head_line, member_list, group_line, refusal_line, report_lines, listed_lines, listed_groups, day_lines, judged_lines, joined, listing}
use Rattle.promises.specs.D1.{badges, d1_words}
use Rattle.promises.specs.Ties.{ties_words}
use Rattle.promises.specs.Circles.{apart_words, leaving_words, crossing_words}
use Rattle.promises.specs.Tracing.{rising_words, falling_words, at_once_words, two_sources_words}
use Rattle.cases.specs.RecordBytes.{BH, CT, ED, RH, GR, PH, PT, RW, GW, PW, QW}
use Rattle.cases.specs.Rows.{Holds}
use Rattle.cases.specs.Table.{sevens, d1_log, d1_variant, d1_report, changing_log, changing_words, empty_log, empty_words, equal_badges, starred}
use Rattle.cases.specs.Further.{nested_log, nested_words, further}
use Rattle.cases.specs.Example.{example_log, example_words, example_tidy, east_log, west_log, both_words, example}
use Rattle.cases.specs.Requests.{triple, couple, nobody, without2, without3, missing, missing_words, repeating, repeating_words, four_ticks, clique_words, ring_words, around_words, requested}
use Rattle.cases.specs.BiggerWards.{wide_log, wide_tidy, wide_words, two_ticks, three, badge64, calm64, foreign64, wide}

-- sets and lists
sets-computing : ℕ
unfolding ◌and◌ ◌or◌ isnt all bit is_sub intersection union difference only set_of full filter_in filter size_in size smallest little_endian from_little_endian tabulate concat_below keep_if piecewise from_words to_words set_at words_of
sets-computing = 0

-- records, judging a log, days, tidy logs and the calls of the log part
log-computing : ℕ
unfolding sets-computing within_limits fields_of encode encode_all is_mark mark_from record_from decode_marked decode refuse_if and_then valid_contact judge_kind judge_values judge_decoded judge_record prepend judge_in judge_from judge badges_of ticks_of contacts_of covers in_contact values_of log_records neighbours adjacent tick_sets day_sets day_words day_of is_tick is_day run_start run_ends run_at runs_of row_runs tidy_contacts tidy_log deliver read_judged read_of check_of parts judge_logs badges_in ticks_in have_size judge_series common_size sum joinable judge_join heard_by quorum joined_day join_judged join_of write_judged write_of tidy_before9 tidy_of
log-computing = 0

-- the trace
trace-computing : ℕ
unfolding log-computing overlap spread source_from ticks_first passing newly tick_after source_after trace_bytes is_start start_judged trace_judged trace_of
trace-computing = 0

-- cores, cuttings, and the calls of the group part
groups-computing : ℕ
unfolding trace-computing degree strip strips core reaches grow grows circle first_circle circles_in circles largest core_number contains score first_greatest sum_with best_sum end_after ends_from best_ends is_span throughout span_neighbours core_on has_core as_large same is_maximal is_group groups_on groups_from groups_of in_range are_enough meets kept circles_of records_of circle_records shown_records score_on members_on part_on parts_from parts_of is_review is_query is_reviewed_query is_parts sum_of_orders form_of encode_core encode_cores report_bytes plan_bytes review_of core_number_bytes span_judged core_numbers_of report_judged report_of plan_judged plan_of
groups-computing = 0

-- the listing
text-computing : ℕ
unfolding groups-computing decimal_in decimal field head_line member_list group_line refusal_line report_lines listed_lines listed_groups day_lines judged_lines joined listing
text-computing = 0

-- the tables
unfoldable pub computing : ℕ
unfolding text-computing badges ties_words apart_words leaving_words crossing_words rising_words falling_words at_once_words two_sources_words BH CT ED RH GR PH PT RW GW PW QW Holds sevens d1_log d1_words d1_variant d1_report changing_log changing_words empty_log empty_words equal_badges starred nested_log nested_words further example_log example_words example_tidy east_log west_log both_words example triple couple nobody without2 without3 missing missing_words repeating repeating_words four_ticks clique_words ring_words around_words requested wide_log wide_tidy wide_words two_ticks three badge64 calm64 foreign64 wide
computing = 0
