-- Worked cases of the requests of document 02, request by request. What a row says is in Rows.
use Rattle.std.specs.Prelude.{List, [], ◌∷◌, ◌++◌, ℕ, ◌*◌, replicate}
use Rattle.sets.specs.Words.{set_words, words_of}
use Rattle.sets.specs.Sets.{full}
use Rattle.records.specs.Outcomes.{refused, success}
use Rattle.chains.specs.Traces.{never, no_source}
use Rattle.thresholds.specs.Ranges.{plain, least_of}
use Rattle.promises.specs.D1.{badges, d1_words}
use Rattle.promises.specs.Ties.{ties_words}
use Rattle.promises.specs.Circles.{apart_words, leaving_words, crossing_words}
use Rattle.promises.specs.Tracing.{rising_words, falling_words, at_once_words, two_sources_words}
use Rattle.cases.specs.RecordBytes.{BH, CT, ED, RH, GR, PH, PT}
use Rattle.cases.specs.Rows.{Row, join, tidy, trace, core_numbers, report, plan, plan_ends, cut_sum, listing, length_of}
use Rattle.cases.specs.Table.{sevens, room, less, more, sized, d1_log, empty_log, empty_words, equal_badges}

-- reports of D1 that keep one of its two groups, "order 2, 0 to 1, {0,1,2}" and "order 1, 0 to 2, {2,3}", and none
unfoldable pub triple : List ℕ
triple = RH 4 3 ++ GR 2 0 1 (badges (0 ∷ 1 ∷ 2 ∷ [])) ++ ED 1

unfoldable pub couple : List ℕ
couple = RH 4 3 ++ GR 1 0 2 (badges (2 ∷ 3 ∷ [])) ++ ED 1

unfoldable pub nobody : List ℕ
nobody = RH 4 3 ++ ED 0

-- D1's badges without 2, and without 3
unfoldable pub without2 : ℕ
without2 = badges (0 ∷ 1 ∷ 3 ∷ [])

unfoldable pub without3 : ℕ
without3 = badges (0 ∷ 1 ∷ 2 ∷ [])

-- "D1 .. contacts 0–1, 0–2 and 1–2 in ticks 0 to 1, and 2–3 in ticks 0 to 2", heard by a receiver that misses 0–1 and names the others from the other side;
-- by one that hears 2–3 alone, and says it twice; and D1's contacts in a day of 4 ticks
unfoldable pub missing : List ℕ
missing = BH 4 3 ++ CT 3 2 0 2 ++ CT 2 0 0 1 ++ CT 2 1 0 1 ++ ED 3

unfoldable pub missing_words : List ℕ
missing_words = words_of (
    (badges (2 ∷ []) ∷ badges (2 ∷ []) ∷ badges (0 ∷ 1 ∷ 3 ∷ []) ∷ badges (2 ∷ []) ∷ [])
    ++ (badges (2 ∷ []) ∷ badges (2 ∷ []) ∷ badges (0 ∷ 1 ∷ 3 ∷ []) ∷ badges (2 ∷ []) ∷ [])
    ++ (badges [] ∷ badges [] ∷ badges (3 ∷ []) ∷ badges (2 ∷ []) ∷ []))

unfoldable pub repeating : List ℕ
repeating = BH 4 3 ++ CT 2 3 0 2 ++ CT 2 3 0 2 ++ ED 2

unfoldable pub repeating_words : List ℕ
repeating_words = words_of (
    (badges [] ∷ badges [] ∷ badges (3 ∷ []) ∷ badges (2 ∷ []) ∷ [])
    ++ (badges [] ∷ badges [] ∷ badges (3 ∷ []) ∷ badges (2 ∷ []) ∷ [])
    ++ (badges [] ∷ badges [] ∷ badges (3 ∷ []) ∷ badges (2 ∷ []) ∷ []))

unfoldable pub four_ticks : List ℕ
four_ticks = BH 4 4 ++ CT 0 1 0 1 ++ CT 0 2 0 1 ++ CT 1 2 0 1 ++ CT 2 3 0 2 ++ ED 4

-- n 7, T 1: a triangle of badges 0, 1 and 2, with all pairs of 3, 4, 5 and 6 (a clique), and with 3–4, 4–5, 5–6 and 6–3 (a ring); n 4, T 1: 0–3 and 1–2
unfoldable pub clique_words : List ℕ
clique_words = words_of (
    (badges (1 ∷ 2 ∷ []) ∷ badges (0 ∷ 2 ∷ []) ∷ badges (0 ∷ 1 ∷ []) ∷ [])
    ++ (badges (4 ∷ 5 ∷ 6 ∷ []) ∷ badges (3 ∷ 5 ∷ 6 ∷ []) ∷ badges (3 ∷ 4 ∷ 6 ∷ []) ∷ badges (3 ∷ 4 ∷ 5 ∷ []) ∷ []))

unfoldable pub ring_words : List ℕ
ring_words = words_of (
    (badges (1 ∷ 2 ∷ []) ∷ badges (0 ∷ 2 ∷ []) ∷ badges (0 ∷ 1 ∷ []) ∷ [])
    ++ (badges (4 ∷ 6 ∷ []) ∷ badges (3 ∷ 5 ∷ []) ∷ badges (4 ∷ 6 ∷ []) ∷ badges (3 ∷ 5 ∷ []) ∷ []))

unfoldable pub around_words : List ℕ
around_words = words_of (badges (3 ∷ []) ∷ badges (2 ∷ []) ∷ badges (1 ∷ []) ∷ badges (0 ∷ []) ∷ [])

unfoldable pub requested : List Row
requested =
    -- "One. Thresholds. .. It keeps the records of the full report that meet all three, in their order"
    report 4 3 d1_words (full 4) (least_of 3 1 2) (sevens 23) (success 23) couple
    ∷ report 4 3 d1_words (full 4) (least_of 1 2 2) (sevens 23) (success 23) triple
    ∷ report 4 3 d1_words (full 4) (least_of 1 1 3) (sevens 23) (success 23) triple
    -- "domination is judged before the filter": order 1 on 0 to 1 has a core of four, but order 1 on 0 to 2 has one, too
    ∷ report 4 3 d1_words (full 4) (least_of 1 1 4) (sevens 10) (success 10) nobody
    ∷ length_of nobody 10
    -- the ranges do not depend on the day
    ∷ report 4 3 d1_words (full 4) (least_of 96 127 128) (sevens 10) (success 10) nobody
    -- the buffer is measured against what is kept: a byte less than the plain report, and a byte less than this one
    ∷ report 4 3 d1_words (full 4) (least_of 3 1 2) (sevens 35) (success 23) (couple ++ sevens 12)
    ∷ report 4 3 d1_words (full 4) (least_of 3 1 2) (sevens 22) (refused 9 0) (sevens 22)
    -- "17, a threshold outside its range": too small, and one above each limit
    ∷ report 4 3 d1_words (full 4) (least_of 0 1 2) (sevens 36) (refused 17 0) (sevens 36)
    ∷ report 4 3 d1_words (full 4) (least_of 97 1 2) (sevens 36) (refused 17 0) (sevens 36)
    ∷ report 4 3 d1_words (full 4) (least_of 1 0 2) (sevens 36) (refused 17 0) (sevens 36)
    ∷ report 4 3 d1_words (full 4) (least_of 1 128 2) (sevens 36) (refused 17 0) (sevens 36)
    ∷ report 4 3 d1_words (full 4) (least_of 1 1 0) (sevens 36) (refused 17 0) (sevens 36)
    ∷ report 4 3 d1_words (full 4) (least_of 1 1 1) (sevens 36) (refused 17 0) (sevens 36)
    ∷ report 4 3 d1_words (full 4) (least_of 1 1 129) (sevens 36) (refused 17 0) (sevens 36)
    -- "after 11 and before 9"
    ∷ report 4 3 d1_words (full 4) (least_of 0 1 2) (sevens 3) (refused 17 0) (sevens 3)
    ∷ report 4 3 (room 12) (full 4) (least_of 0 1 2) (sevens 36) (refused 11 0) (sevens 36)
    ∷ report 4 3 (less 12) (full 4) (least_of 0 1 2) (sevens 36) (refused 8 0) (sevens 36)
    ∷ report 4 0 [] (full 4) (least_of 0 1 2) (sevens 36) (refused 10 0) (sevens 36)
    -- "Two. .. Joining runs can't produce more records than came in": as many where no two touch, and one where all do
    ∷ tidy (BH 2 5 ++ CT 0 1 4 4 ++ CT 1 0 0 0 ++ CT 0 1 2 2 ++ ED 3) (room 10) (sevens 28) (success 28) (words_of (2 ∷ 1 ∷ 0 ∷ 0 ∷ 2 ∷ 1 ∷ 0 ∷ 0 ∷ 2 ∷ 1 ∷ [])) (BH 2 5 ++ CT 0 1 0 0 ++ CT 0 1 2 2 ++ CT 0 1 4 4 ++ ED 3)
    ∷ tidy (BH 2 3 ++ CT 0 1 2 2 ++ CT 1 0 0 0 ++ CT 0 1 1 1 ++ ED 3) (room 6) (sevens 16) (success 16) (words_of (2 ∷ 1 ∷ 2 ∷ 1 ∷ 2 ∷ 1 ∷ [])) (BH 2 3 ++ CT 0 1 0 2 ++ ED 1)
    -- "The order of tidy becomes log, 8, 9", each with all that come after it
    ∷ tidy (BH 2 3 ++ CT 0 1 0 2 ++ ED 2) (less 6) (sevens 15) (refused 6 10) (less 6) (sevens 15)
    ∷ tidy (BH 2 3 ++ CT 0 1 0 2 ++ ED 1) (less 6) (sevens 15) (refused 8 0) (less 6) (sevens 15)
    ∷ tidy (BH 2 3 ++ CT 0 1 0 2 ++ ED 1) (room 6) (sevens 15) (refused 9 0) (words_of (2 ∷ 1 ∷ 2 ∷ 1 ∷ 2 ∷ 1 ∷ [])) (sevens 15)
    -- "Three. .. For D1, query {2} and h 2 the ends are 0 and 2."
    ∷ plan_ends 4 3 d1_words (full 4) (badges (2 ∷ [])) 2 (0 ∷ 2 ∷ [])
    ∷ plan 4 3 d1_words (full 4) (badges (2 ∷ [])) 2 (sevens 45) (success 45) (PH 4 3 2 (badges (2 ∷ [])) ++ PT 2 0 0 (badges (0 ∷ 1 ∷ 2 ∷ [])) ++ PT 1 1 2 (badges (2 ∷ 3 ∷ [])) ++ ED 2)
    -- where no badge met another, every cutting has the sum 0, and the first has all parts but the last of one tick
    ∷ plan_ends 3 5 (replicate (15 * set_words) 0) (full 3) (badges (0 ∷ [])) 3 (0 ∷ 1 ∷ 4 ∷ [])
    -- "compared number by number", from the first on: 0, 3, 4 and 1, 2, 4 have the same sum, and so have 2, 3, 4
    ∷ plan_ends 3 5 ties_words (full 3) (badges (0 ∷ [])) 3 (0 ∷ 3 ∷ 4 ∷ [])
    ∷ cut_sum 3 ties_words (full 3) (badges (0 ∷ [])) (0 ∷ 3 ∷ 4 ∷ []) 3
    ∷ cut_sum 3 ties_words (full 3) (badges (0 ∷ [])) (1 ∷ 2 ∷ 4 ∷ []) 3
    ∷ cut_sum 3 ties_words (full 3) (badges (0 ∷ [])) (2 ∷ 3 ∷ 4 ∷ []) 3
    -- "Four. .. A contact counts if at least q receivers heard it": one of two misses 0–1; words after the day and work words after those of each log stay
    ∷ length_of missing 28
    ∷ join (d1_log ++ missing) (34 ∷ 28 ∷ []) 1 (room 12) (room 24) (sized 4 3) d1_words (replicate (24 * set_words) 0)
    ∷ join (d1_log ++ missing) (34 ∷ 28 ∷ []) 2 (more 12 1) (more 24 2) (sized 4 3) (missing_words ++ 7 ∷ []) (replicate (24 * set_words) 0 ++ 7 ∷ 7 ∷ [])
    -- "a receiver that logs it twice counts once": one that says 2–3 twice, with one that says nothing, and with D1's
    ∷ length_of repeating 22
    ∷ join (repeating ++ empty_log) (22 ∷ 10 ∷ []) 1 (room 12) (room 24) (sized 4 3) repeating_words (replicate (24 * set_words) 0)
    ∷ join (repeating ++ empty_log) (22 ∷ 10 ∷ []) 2 (room 12) (room 24) (sized 4 3) empty_words (replicate (24 * set_words) 0)
    ∷ join (repeating ++ d1_log) (22 ∷ 34 ∷ []) 2 (room 12) (room 24) (sized 4 3) repeating_words (replicate (24 * set_words) 0)
    -- three logs and four: 0–1 is heard by one of three, and 2–3 by all
    ∷ join (d1_log ++ missing ++ repeating) (34 ∷ 28 ∷ 22 ∷ []) 2 (room 12) (room 36) (sized 4 3) missing_words (replicate (36 * set_words) 0)
    ∷ join (d1_log ++ missing ++ repeating ++ d1_log) (34 ∷ 28 ∷ 22 ∷ 34 ∷ []) 4 (room 12) (room 48) (sized 4 3) repeating_words (replicate (48 * set_words) 0)
    -- "19, n or T differs from the first log, judged after all logs pass and before 8"
    ∷ join (d1_log ++ four_ticks) (34 ∷ 34 ∷ []) 1 (room 12) (room 32) (refused 19 0) (room 12) (room 32)
    ∷ join (d1_log ++ four_ticks) (34 ∷ 34 ∷ []) 1 [] [] (refused 19 0) [] []
    ∷ join (d1_log ++ four_ticks ++ equal_badges) (34 ∷ 34 ∷ 16 ∷ []) 1 [] [] (refused 4 72) [] []
    -- "Offsets count from the start of the buffer", each log is judged within its length, and an empty one gets 1 where it would start
    ∷ join (d1_log ++ equal_badges) (34 ∷ 16 ∷ []) 1 (room 12) (room 24) (refused 4 38) (room 12) (room 24)
    ∷ join (d1_log ++ empty_log) (33 ∷ 11 ∷ []) 1 (room 12) (room 24) (refused 1 28) (room 12) (room 24)
    ∷ join (d1_log ++ empty_log) (35 ∷ 9 ∷ []) 1 (room 12) (room 24) (refused 7 34) (room 12) (room 24)
    ∷ join (d1_log ++ d1_log) (34 ∷ 0 ∷ 34 ∷ []) 1 (room 12) (room 36) (refused 1 34) (room 12) (room 36)
    -- "18, number of logs or q outside its limits, or lengths that don't add up to the buffer, judged before any log"; the third sum is 34 at 64 bits
    ∷ join d1_log (34 ∷ []) 1 (room 12) (room 12) (refused 18 0) (room 12) (room 12)
    ∷ join (empty_log ++ empty_log ++ empty_log ++ empty_log ++ empty_log) (10 ∷ 10 ∷ 10 ∷ 10 ∷ 10 ∷ []) 1 (room 12) (room 60) (refused 18 0) (room 12) (room 60)
    ∷ join d1_log (18446744073709551615 ∷ 35 ∷ []) 1 (room 12) (room 24) (refused 18 0) (room 12) (room 24)
    ∷ join (d1_log ++ equal_badges) (34 ∷ 15 ∷ []) 1 (room 12) (room 24) (refused 18 0) (room 12) (room 24)
    ∷ join (d1_log ++ equal_badges) (34 ∷ 16 ∷ []) 0 (room 12) (room 24) (refused 18 0) (room 12) (room 24)
    ∷ join (d1_log ++ equal_badges) (34 ∷ 16 ∷ []) 3 (room 12) (room 24) (refused 18 0) (room 12) (room 24)
    -- 8: "the first n×T work words for each log, counted by 8 too"
    ∷ join (d1_log ++ missing) (34 ∷ 28 ∷ []) 1 (less 12) (room 24) (refused 8 0) (less 12) (room 24)
    ∷ join (d1_log ++ missing) (34 ∷ 28 ∷ []) 1 (room 12) (less 24) (refused 8 0) (room 12) (less 24)
    -- "Six. .. all cores are cores among those badges, others have core number 0": D1 without badge 2, and without badge 3
    ∷ core_numbers 4 3 d1_words without2 0 1 (sevens 4) (success 4) (1 ∷ 1 ∷ 0 ∷ 0 ∷ [])
    ∷ core_numbers 4 3 d1_words without2 0 2 (sevens 4) (success 4) (0 ∷ 0 ∷ 0 ∷ 0 ∷ [])
    ∷ core_numbers 4 3 d1_words without3 0 1 (sevens 4) (success 4) (2 ∷ 2 ∷ 2 ∷ 0 ∷ [])
    ∷ core_numbers 4 3 d1_words without3 0 2 (sevens 4) (success 4) (0 ∷ 0 ∷ 0 ∷ 0 ∷ [])
    -- domination is judged among them alone: the first of these records is none of the full report's
    ∷ report 4 3 d1_words without2 plain (sevens 23) (success 23) (RH 4 3 ++ GR 1 0 1 (badges (0 ∷ 1 ∷ [])) ++ ED 1)
    ∷ report 4 3 d1_words without3 plain (sevens 23) (success 23) triple
    -- "a plan part of score 0 shows the reviewed set", and an empty query names no badge that is not reviewed
    ∷ plan 4 3 d1_words without2 (badges (0 ∷ [])) 2 (sevens 45) (success 45) (PH 4 3 2 (badges (0 ∷ [])) ++ PT 1 0 0 (badges (0 ∷ 1 ∷ [])) ++ PT 0 1 2 without2 ++ ED 2)
    ∷ plan 4 3 d1_words without3 (badges (2 ∷ [])) 1 (sevens 32) (success 32) (PH 4 3 1 (badges (2 ∷ [])) ++ PT 0 0 2 without3 ++ ED 1)
    ∷ plan 4 3 d1_words (badges (3 ∷ [])) (badges []) 1 (sevens 32) (success 32) (PH 4 3 1 (badges []) ++ PT 0 0 2 (badges (3 ∷ [])) ++ ED 1)
    -- "20, the set is empty or has a badge of n or more", with good ones too
    ∷ core_numbers 4 3 d1_words (badges []) 0 1 (sevens 4) (refused 20 0) (sevens 4)
    ∷ core_numbers 4 3 d1_words (badges (4 ∷ [])) 0 1 (sevens 4) (refused 20 0) (sevens 4)
    ∷ report 4 3 d1_words (badges []) plain (sevens 36) (refused 20 0) (sevens 36)
    ∷ report 4 3 d1_words (badges (0 ∷ 1 ∷ 2 ∷ 3 ∷ 4 ∷ [])) plain (sevens 36) (refused 20 0) (sevens 36)
    ∷ plan 4 3 d1_words (badges []) (badges []) 1 (sevens 32) (refused 20 0) (sevens 32)
    ∷ plan 4 3 d1_words (badges (2 ∷ 4 ∷ [])) (badges (2 ∷ [])) 1 (sevens 32) (refused 20 0) (sevens 32)
    -- "directly after 11 and so before 12, 13 and 17"
    ∷ core_numbers 4 3 d1_words (badges []) 2 1 (sevens 3) (refused 20 0) (sevens 3)
    ∷ report 4 3 d1_words (badges []) (least_of 0 1 2) (sevens 3) (refused 20 0) (sevens 3)
    ∷ plan 4 3 d1_words (badges []) (badges (4 ∷ [])) 4 (sevens 3) (refused 20 0) (sevens 3)
    ∷ core_numbers 4 3 (room 12) (badges []) 2 1 (sevens 3) (refused 11 0) (sevens 3)
    ∷ report 4 3 (less 12) (badges []) (least_of 0 1 2) (sevens 3) (refused 8 0) (sevens 3)
    ∷ plan 4 0 [] (badges []) (badges (4 ∷ [])) 4 (sevens 3) (refused 10 0) (sevens 3)
    -- "21, the query has a badge outside it, between 13 and 14"
    ∷ plan 4 3 d1_words without3 (badges (3 ∷ [])) 1 (sevens 32) (refused 21 0) (sevens 32)
    ∷ plan 4 3 d1_words without3 (badges (4 ∷ [])) 1 (sevens 32) (refused 13 0) (sevens 32)
    ∷ plan 4 3 d1_words without3 (badges (3 ∷ 4 ∷ [])) 4 (sevens 3) (refused 13 0) (sevens 3)
    ∷ plan 4 3 d1_words without3 (badges (2 ∷ 3 ∷ [])) 4 (sevens 3) (refused 21 0) (sevens 3)
    ∷ plan 4 3 d1_words without3 (badges (2 ∷ [])) 4 (sevens 3) (refused 14 0) (sevens 3)
    -- "Seven. .. each maximal core is reported by its circles": two triangles far apart are two records of one order and one span
    ∷ report 6 1 apart_words (full 6) plain (sevens 37) (success 36) (RH 6 1 ++ GR 2 0 0 (badges (0 ∷ 1 ∷ 2 ∷ [])) ++ GR 2 0 0 (badges (3 ∷ 4 ∷ 5 ∷ [])) ++ ED 2 ++ 7 ∷ [])
    ∷ report 6 1 apart_words (full 6) plain (sevens 35) (refused 9 0) (sevens 35)
    -- "Least members is counted per circle": neither has 4; of a triangle and a ring of four the ring has. With all pairs of the four, these are of order 3
    ∷ report 6 1 apart_words (full 6) (least_of 1 1 4) (sevens 10) (success 10) (RH 6 1 ++ ED 0)
    ∷ report 7 1 ring_words (full 7) plain (sevens 36) (success 36) (RH 7 1 ++ GR 2 0 0 (badges (0 ∷ 1 ∷ 2 ∷ [])) ++ GR 2 0 0 (badges (3 ∷ 4 ∷ 5 ∷ 6 ∷ [])) ++ ED 2)
    ∷ report 7 1 ring_words (full 7) (least_of 1 1 4) (sevens 23) (success 23) (RH 7 1 ++ GR 2 0 0 (badges (3 ∷ 4 ∷ 5 ∷ 6 ∷ [])) ++ ED 1)
    ∷ report 7 1 clique_words (full 7) plain (sevens 23) (success 23) (RH 7 1 ++ GR 3 0 0 (badges (3 ∷ 4 ∷ 5 ∷ 6 ∷ [])) ++ ED 1)
    ∷ report 7 1 clique_words (full 7) (least_of 1 1 4) (sevens 23) (success 23) (RH 7 1 ++ GR 3 0 0 (badges (3 ∷ 4 ∷ 5 ∷ 6 ∷ [])) ++ ED 1)
    -- "ordered by first tick, last tick, smallest member", whoever is the largest
    ∷ report 4 1 around_words (full 4) plain (sevens 36) (success 36) (RH 4 1 ++ GR 1 0 0 (badges (0 ∷ 3 ∷ [])) ++ GR 1 0 0 (badges (1 ∷ 2 ∷ [])) ++ ED 2)
    -- "Domination is still by order and span of the whole core": 2–3 in tick 0 is of a core that the longer span of 0–1 dominates
    ∷ report 4 2 leaving_words (full 4) plain (sevens 23) (success 23) (RH 4 2 ++ GR 1 0 1 (badges (0 ∷ 1 ∷ [])) ++ ED 1)
    -- the span's pairs: 0–1 and 2–3 are in both ticks, and what joins them is in one alone
    ∷ report 4 2 crossing_words (full 4) plain (sevens 36) (success 36) (RH 4 2 ++ GR 1 0 1 (badges (0 ∷ 1 ∷ [])) ++ GR 1 0 1 (badges (2 ∷ 3 ∷ [])) ++ ED 2)
    -- among the badges under review: without 4 the other triangle is none
    ∷ report 6 1 apart_words (badges (0 ∷ 1 ∷ 2 ∷ 3 ∷ 5 ∷ [])) plain (sevens 23) (success 23) (RH 6 1 ++ GR 2 0 0 (badges (0 ∷ 1 ∷ 2 ∷ [])) ++ ED 1)
    -- the listing program "counts and prints each circle as a group"
    ∷ listing (BH 6 1 ++ CT 0 1 0 0 ++ CT 0 2 0 0 ++ CT 1 2 0 0 ++ CT 3 4 0 0 ++ CT 3 5 0 0 ++ CT 4 5 0 0 ++ ED 6) "badges 6 ticks 1 groups 2\norder 2 ticks 0 to 0 badges 0 1 2\norder 2 ticks 0 to 0 badges 3 4 5\n"
    -- "Members in plans are not split", and core numbers are those of the cores
    ∷ plan 6 1 apart_words (full 6) (badges (0 ∷ [])) 1 (sevens 32) (success 32) (PH 6 1 1 (badges (0 ∷ [])) ++ PT 2 0 0 (full 6) ++ ED 1)
    ∷ core_numbers 6 1 apart_words (full 6) 0 0 (sevens 6) (success 6) (replicate 6 2)
    -- "Eight. .. it finds for each badge the earliest tick in which it can have been reached, and 255 if never; the index has s": D1 from badge 3 in tick 0 and
    -- in tick 2, and from badge 0 in tick 1; "ticks first", then the sources
    ∷ trace 4 3 d1_words 3 0 (sevens 8) (success 8) ((1 ∷ 1 ∷ 0 ∷ 0 ∷ []) ++ (2 ∷ 2 ∷ 3 ∷ no_source ∷ []))
    ∷ trace 4 3 d1_words 3 2 (sevens 8) (success 8) ((never ∷ never ∷ 2 ∷ 2 ∷ []) ++ (no_source ∷ no_source ∷ 3 ∷ no_source ∷ []))
    ∷ trace 4 3 d1_words 0 1 (sevens 9) (success 8) ((1 ∷ 1 ∷ 1 ∷ 2 ∷ []) ++ (no_source ∷ 0 ∷ 0 ∷ 2 ∷ []) ++ 7 ∷ [])
    -- "contacts in strictly rising ticks": a path met in falling ticks, in rising ticks, and all at once
    ∷ trace 4 3 falling_words 0 0 (sevens 8) (success 8) ((0 ∷ 2 ∷ never ∷ never ∷ []) ++ (no_source ∷ 0 ∷ no_source ∷ no_source ∷ []))
    ∷ trace 4 3 rising_words 0 0 (sevens 8) (success 8) ((0 ∷ 0 ∷ 1 ∷ 2 ∷ []) ++ (no_source ∷ 0 ∷ 1 ∷ 2 ∷ []))
    ∷ trace 4 3 at_once_words 0 0 (sevens 8) (success 8) ((0 ∷ 0 ∷ never ∷ never ∷ []) ++ (no_source ∷ 0 ∷ no_source ∷ no_source ∷ []))
    -- "the first in s or later": the path's first contact is over
    ∷ trace 4 3 rising_words 0 1 (sevens 8) (success 8) ((1 ∷ never ∷ never ∷ never ∷ []) ++ (no_source ∷ no_source ∷ no_source ∷ no_source ∷ []))
    -- "the smallest badge in contact with it in that tick that may pass on by then": 1 and 2 may; and from badge 3 in tick 1 both are reached from 3, too late for 0
    ∷ trace 4 2 two_sources_words 0 0 (sevens 8) (success 8) ((0 ∷ 0 ∷ 0 ∷ 1 ∷ []) ++ (no_source ∷ 0 ∷ 0 ∷ 1 ∷ []))
    ∷ trace 4 2 two_sources_words 3 1 (sevens 8) (success 8) ((never ∷ 1 ∷ 1 ∷ 1 ∷ []) ++ (no_source ∷ 3 ∷ 3 ∷ no_source ∷ []))
    -- "22, index of n or more or s of T or more, after 11 and before 9"
    ∷ trace 4 3 d1_words 4 0 (sevens 8) (refused 22 0) (sevens 8)
    ∷ trace 4 3 d1_words 3 3 (sevens 8) (refused 22 0) (sevens 8)
    ∷ trace 4 3 d1_words 4 3 (sevens 7) (refused 22 0) (sevens 7)
    ∷ trace 4 3 (room 12) 4 3 (sevens 7) (refused 11 0) (sevens 7)
    ∷ trace 4 3 (less 12) 4 3 (sevens 7) (refused 8 0) (sevens 7)
    ∷ trace 4 0 [] 4 3 (sevens 7) (refused 10 0) (sevens 7)
    -- 9 below 2n bytes
    ∷ trace 4 3 d1_words 3 2 (sevens 7) (refused 9 0) (sevens 7)
    ∷ []
