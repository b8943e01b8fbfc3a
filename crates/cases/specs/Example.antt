-- The worked example of README: a small log made by hand, and what the calls and the listing program make of it. What a row says is in Rows.
use Rattle.std.specs.Prelude.{List, [], ◌∷◌, ◌++◌, ℕ, ◌*◌, replicate}
use Rattle.sets.specs.Words.{set_words, words_of}
use Rattle.sets.specs.Sets.{full}
use Rattle.records.specs.Outcomes.{success}
use Rattle.chains.specs.Traces.{never, no_source}
use Rattle.thresholds.specs.Ranges.{least_of, plain}
use Rattle.promises.specs.D1.{badges}
use Rattle.cases.specs.RecordBytes.{BH, CT, ED, RH, GR, PH, PT}
use Rattle.cases.specs.Rows.{Row, read, join, tidy, trace, core_numbers, report, plan, plan_sum, plan_ends, cut_sum, listing, length_of}
use Rattle.cases.specs.Table.{sevens, room, accepted, sized}

-- five badges, four ticks, in arrival order: 2–0 in ticks 0 to 1, 0–1 in ticks 0 to 2, 1–2 in ticks 0 to 1 and, from the other side, in
-- tick 2, and 3–4 in ticks 1 to 3
unfoldable pub example_log : List ℕ
example_log = BH 5 4 ++ CT 2 0 0 1 ++ CT 0 1 0 2 ++ CT 1 2 0 1 ++ CT 2 1 2 2 ++ CT 3 4 1 3 ++ ED 5

-- its day in words, tick after tick
unfoldable pub example_words : List ℕ
example_words = words_of (
    (badges (1 ∷ 2 ∷ []) ∷ badges (0 ∷ 2 ∷ []) ∷ badges (0 ∷ 1 ∷ []) ∷ badges [] ∷ badges [] ∷ [])
    ++ (badges (1 ∷ 2 ∷ []) ∷ badges (0 ∷ 2 ∷ []) ∷ badges (0 ∷ 1 ∷ []) ∷ badges (4 ∷ []) ∷ badges (3 ∷ []) ∷ [])
    ++ (badges (1 ∷ []) ∷ badges (0 ∷ 2 ∷ []) ∷ badges (1 ∷ []) ∷ badges (4 ∷ []) ∷ badges (3 ∷ []) ∷ [])
    ++ (badges [] ∷ badges [] ∷ badges [] ∷ badges (4 ∷ []) ∷ badges (3 ∷ []) ∷ []))

-- its tidy log
unfoldable pub example_tidy : List ℕ
example_tidy = BH 5 4 ++ CT 0 1 0 2 ++ CT 0 2 0 1 ++ CT 1 2 0 2 ++ CT 3 4 1 3 ++ ED 4

-- what two receivers heard of the same shift: each misses some of it, and the first says twice that 1 and 2 were together in ticks 0 and 1
unfoldable pub east_log : List ℕ
east_log = BH 5 4 ++ CT 0 1 0 2 ++ CT 0 2 0 1 ++ CT 1 2 0 1 ++ CT 2 1 0 2 ++ CT 3 4 2 3 ++ ED 5

unfoldable pub west_log : List ℕ
west_log = BH 5 4 ++ CT 4 3 1 3 ++ CT 0 1 1 2 ++ CT 2 0 1 1 ++ CT 1 2 1 2 ++ ED 4

-- what both heard
unfoldable pub both_words : List ℕ
both_words = words_of (
    (badges [] ∷ badges [] ∷ badges [] ∷ badges [] ∷ badges [] ∷ [])
    ++ (badges (1 ∷ 2 ∷ []) ∷ badges (0 ∷ 2 ∷ []) ∷ badges (0 ∷ 1 ∷ []) ∷ badges [] ∷ badges [] ∷ [])
    ++ (badges (1 ∷ []) ∷ badges (0 ∷ 2 ∷ []) ∷ badges (1 ∷ []) ∷ badges (4 ∷ []) ∷ badges (3 ∷ []) ∷ [])
    ++ (badges [] ∷ badges [] ∷ badges [] ∷ badges (4 ∷ []) ∷ badges (3 ∷ []) ∷ []))

unfoldable pub example : List Row
example =
    length_of example_log 40
    ∷ read example_log (room 20) (accepted 5 4 5) example_words
    ∷ tidy example_log (room 20) (sevens 34) (success 34) example_words example_tidy
    ∷ core_numbers 5 4 example_words (full 5) 0 1 (sevens 5) (success 5) (2 ∷ 2 ∷ 2 ∷ 0 ∷ 0 ∷ [])
    ∷ report 5 4 example_words (full 5) plain (sevens 49) (success 49) (RH 5 4 ++ GR 2 0 1 (badges (0 ∷ 1 ∷ 2 ∷ [])) ++ GR 1 0 2 (badges (0 ∷ 1 ∷ 2 ∷ [])) ++ GR 1 1 3 (badges (3 ∷ 4 ∷ [])) ++ ED 3)
    -- with a least length of three ticks, and with a least order of 2
    ∷ report 5 4 example_words (full 5) (least_of 3 1 2) (sevens 36) (success 36) (RH 5 4 ++ GR 1 0 2 (badges (0 ∷ 1 ∷ 2 ∷ [])) ++ GR 1 1 3 (badges (3 ∷ 4 ∷ [])) ++ ED 2)
    ∷ report 5 4 example_words (full 5) (least_of 1 2 2) (sevens 23) (success 23) (RH 5 4 ++ GR 2 0 1 (badges (0 ∷ 1 ∷ 2 ∷ [])) ++ ED 1)
    -- without badges 1 and 3: a group that was dominated before
    ∷ report 5 4 example_words (badges (0 ∷ 2 ∷ 4 ∷ [])) plain (sevens 23) (success 23) (RH 5 4 ++ GR 1 0 1 (badges (0 ∷ 2 ∷ [])) ++ ED 1)
    ∷ listing example_log "badges 5 ticks 4 groups 3\norder 2 ticks 0 to 1 badges 0 1 2\norder 1 ticks 0 to 2 badges 0 1 2\norder 1 ticks 1 to 3 badges 3 4\n"
    -- badge 1 in three parts
    ∷ plan_sum 5 4 example_words (full 5) (badges (1 ∷ [])) 3 4
    ∷ plan 5 4 example_words (full 5) (badges (1 ∷ [])) 3 (sevens 58) (success 58) (PH 5 4 3 (badges (1 ∷ [])) ++ PT 2 0 0 (badges (0 ∷ 1 ∷ 2 ∷ [])) ++ PT 2 1 1 (badges (0 ∷ 1 ∷ 2 ∷ [])) ++ PT 0 2 3 (badges (0 ∷ 1 ∷ 2 ∷ 3 ∷ 4 ∷ [])) ++ ED 3)
    -- and in two: a cut after tick 0 and one after tick 1 have the same sum
    ∷ plan_ends 5 4 example_words (full 5) (badges (1 ∷ [])) 2 (0 ∷ 3 ∷ [])
    ∷ cut_sum 5 example_words (full 5) (badges (1 ∷ [])) (0 ∷ 3 ∷ []) 2
    ∷ cut_sum 5 example_words (full 5) (badges (1 ∷ [])) (1 ∷ 3 ∷ []) 2
    -- whom badge 0 can have reached from tick 2 on, and from tick 0 on
    ∷ trace 5 4 example_words 0 2 (sevens 10) (success 10) ((2 ∷ 2 ∷ never ∷ never ∷ never ∷ []) ++ (no_source ∷ 0 ∷ no_source ∷ no_source ∷ no_source ∷ []))
    ∷ trace 5 4 example_words 0 0 (sevens 10) (success 10) ((0 ∷ 0 ∷ 0 ∷ never ∷ never ∷ []) ++ (no_source ∷ 0 ∷ 0 ∷ no_source ∷ no_source ∷ []))
    -- two receivers: what one of them heard is the day above; what both heard, and its groups
    ∷ length_of east_log 40
    ∷ length_of west_log 34
    ∷ join (east_log ++ west_log) (40 ∷ 34 ∷ []) 1 (room 20) (room 40) (sized 5 4) example_words (replicate (40 * set_words) 0)
    ∷ join (east_log ++ west_log) (40 ∷ 34 ∷ []) 2 (room 20) (room 40) (sized 5 4) both_words (replicate (40 * set_words) 0)
    ∷ report 5 4 both_words (full 5) plain (sevens 49) (success 49) (RH 5 4 ++ GR 2 1 1 (badges (0 ∷ 1 ∷ 2 ∷ [])) ++ GR 1 1 2 (badges (0 ∷ 1 ∷ 2 ∷ [])) ++ GR 1 2 3 (badges (3 ∷ 4 ∷ [])) ++ ED 3)
    ∷ []
