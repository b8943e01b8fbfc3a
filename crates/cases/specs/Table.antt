-- The cases marked * in document 01's section "Day D1 and its neighbours", row by row in the paper's order, each under the sentence that it
-- states. What a row says is in Rows.
use Rattle.std.specs.Prelude.{List, [], ◌∷◌, ◌++◌, ℕ, ◌+◌, ◌-◌, ◌*◌, replicate}
use Rattle.sets.specs.Words.{set_words, words_of}
use Rattle.sets.specs.Sets.{full}
use Rattle.records.specs.Outcomes.{Outcome, refused, success}
use Rattle.records.specs.Verdicts.{Values}
use Rattle.series.specs.Series.{Size}
use Rattle.thresholds.specs.Ranges.{plain}
use Rattle.promises.specs.D1.{badges, d1_words}
use Rattle.cases.specs.RecordBytes.{BH, CT, ED, RH, GR, PH, PT}
use Rattle.cases.specs.Rows.{Row, read, tidy, write, core_numbers, report, plan, plan_sum, cut_sum, length_of}

-- lent memory of so many bytes or words, all 7
unfoldable pub sevens : ℕ → List ℕ
sevens m = replicate m 7

-- lent words of so many sets, one word less, and some words more
abbrev pub room : ℕ → List ℕ
room sets = sevens (sets * set_words)

abbrev pub less : ℕ → List ℕ
less sets = sevens (sets * set_words - 1)

abbrev pub more : ℕ → ℕ → List ℕ
more sets words = sevens (sets * set_words + words)

-- what read answers: n, T and the number of CT records as given
abbrev pub accepted : ℕ → ℕ → ℕ → Outcome Values
accepted n T contacts = success (record { badges = n; ticks = T; contacts = contacts })

-- what joining answers: n and T
abbrev pub sized : ℕ → ℕ → Outcome Size
sized n T = success (record { badges = n; ticks = T })

-- "D1: n 4, T 3, contacts 0–1, 0–2 and 1–2 in ticks 0 to 1, and 2–3 in ticks 0 to 2." As a log:
unfoldable pub d1_log : List ℕ
d1_log = BH 4 3 ++ CT 0 1 0 1 ++ CT 0 2 0 1 ++ CT 1 2 0 1 ++ CT 2 3 0 2 ++ ED 4

-- "With 0–1 given instead as last records 1–0 tick 1 and 0–1 tick 0 (40 bytes, count 5)"
unfoldable pub d1_variant : List ℕ
d1_variant = BH 4 3 ++ CT 0 2 0 1 ++ CT 1 2 0 1 ++ CT 2 3 0 2 ++ CT 1 0 1 1 ++ CT 0 1 0 0 ++ ED 5

-- "order 2, 0 to 1, {0,1,2}; order 1, 0 to 2, {2,3}"
unfoldable pub d1_report : List ℕ
d1_report = RH 4 3 ++ GR 2 0 1 (badges (0 ∷ 1 ∷ 2 ∷ [])) ++ GR 1 0 2 (badges (2 ∷ 3 ∷ [])) ++ ED 2

-- "n 3, T 2, 0–1 in tick 0, 0–2 in tick 1", as a log and in words
unfoldable pub changing_log : List ℕ
changing_log = BH 3 2 ++ CT 0 1 0 0 ++ CT 0 2 1 1 ++ ED 2

unfoldable pub changing_words : List ℕ
changing_words = words_of (
    (badges (1 ∷ []) ∷ badges (0 ∷ []) ∷ badges [] ∷ [])
    ++ (badges (2 ∷ []) ∷ badges [] ∷ badges (0 ∷ []) ∷ []))

-- "A log without CT", and its words: no badge is in contact in any tick
unfoldable pub empty_log : List ℕ
empty_log = BH 4 3 ++ ED 0

unfoldable pub empty_words : List ℕ
empty_words = words_of (replicate 12 (badges []))

-- "A first CT 0–0"
unfoldable pub equal_badges : List ℕ
equal_badges = BH 4 3 ++ CT 0 0 0 1 ++ ED 1

unfoldable pub starred : List Row
starred =
    -- "D1: n 4, T 3, contacts 0–1, 0–2 and 1–2 in ticks 0 to 1, and 2–3 in ticks 0 to 2."
    read d1_log (room 12) (accepted 4 3 4) d1_words
    -- "* Its tidy log has 34 bytes and tidies to itself."
    ∷ write 4 3 d1_words (sevens 34) (success 34) d1_log
    ∷ length_of d1_log 34
    ∷ tidy d1_log (room 12) (sevens 34) (success 34) d1_words d1_log
    -- "With 0–1 given instead as last records 1–0 tick 1 and 0–1 tick 0 (40 bytes, count 5) it tidies to the same 34."
    ∷ length_of d1_variant 40
    ∷ tidy d1_variant (room 12) (sevens 34) (success 34) d1_words d1_log
    -- "* Core numbers, span 0 to 1: 2 2 2 1."
    ∷ core_numbers 4 3 d1_words (full 4) 0 1 (sevens 4) (success 4) (2 ∷ 2 ∷ 2 ∷ 1 ∷ [])
    -- "* Span 0 to 2: 0 0 1 1."
    ∷ core_numbers 4 3 d1_words (full 4) 0 2 (sevens 4) (success 4) (0 ∷ 0 ∷ 1 ∷ 1 ∷ [])
    -- "* Report: order 2, 0 to 1, {0,1,2}; order 1, 0 to 2, {2,3}. 36 bytes; a buffer of 35 gets 9."
    ∷ report 4 3 d1_words (full 4) plain (sevens 36) (success 36) d1_report
    ∷ length_of d1_report 36
    ∷ report 4 3 d1_words (full 4) plain (sevens 35) (refused 9 0) (sevens 35)
    -- "* Query {2}: sum 1 for h 1,"
    ∷ plan_sum 4 3 d1_words (full 4) (badges (2 ∷ [])) 1 1
    ∷ plan 4 3 d1_words (full 4) (badges (2 ∷ [])) 1 (sevens 32) (success 32) (PH 4 3 1 (badges (2 ∷ [])) ++ PT 1 0 2 (badges (2 ∷ 3 ∷ [])) ++ ED 1)
    -- "3 for h 2 (cut after tick 0 or tick 1),"
    ∷ plan_sum 4 3 d1_words (full 4) (badges (2 ∷ [])) 2 3
    ∷ cut_sum 4 d1_words (full 4) (badges (2 ∷ [])) (0 ∷ 2 ∷ []) 3
    ∷ cut_sum 4 d1_words (full 4) (badges (2 ∷ [])) (1 ∷ 2 ∷ []) 3
    -- "5 for h 3."
    ∷ plan_sum 4 3 d1_words (full 4) (badges (2 ∷ [])) 3 5
    ∷ plan 4 3 d1_words (full 4) (badges (2 ∷ [])) 3 (sevens 58) (success 58) (PH 4 3 3 (badges (2 ∷ [])) ++ PT 2 0 0 (badges (0 ∷ 1 ∷ 2 ∷ [])) ++ PT 2 1 1 (badges (0 ∷ 1 ∷ 2 ∷ [])) ++ PT 1 2 2 (badges (2 ∷ 3 ∷ [])) ++ ED 3)
    -- "h 4 gets 14."
    ∷ plan 4 3 d1_words (full 4) (badges (2 ∷ [])) 4 (sevens 71) (refused 14 0) (sevens 71)
    -- "* Query {0}, h 1: score 0, all four badges."
    ∷ plan 4 3 d1_words (full 4) (badges (0 ∷ [])) 1 (sevens 32) (success 32) (PH 4 3 1 (badges (0 ∷ [])) ++ PT 0 0 2 (badges (0 ∷ 1 ∷ 2 ∷ 3 ∷ [])) ++ ED 1)
    -- "* Query {0,3}, h 3: sum 2."
    ∷ plan_sum 4 3 d1_words (full 4) (badges (0 ∷ 3 ∷ [])) 3 2
    ∷ plan 4 3 d1_words (full 4) (badges (0 ∷ 3 ∷ [])) 3 (sevens 58) (success 58) (PH 4 3 3 (badges (0 ∷ 3 ∷ [])) ++ PT 1 0 0 (badges (0 ∷ 1 ∷ 2 ∷ 3 ∷ [])) ++ PT 1 1 1 (badges (0 ∷ 1 ∷ 2 ∷ 3 ∷ [])) ++ PT 0 2 2 (badges (0 ∷ 1 ∷ 2 ∷ 3 ∷ [])) ++ ED 3)
    -- "* n 3, T 2, 0–1 in tick 0, 0–2 in tick 1: groups of order 1 at 0 to 0 {0,1} and 1 to 1 {0,2}, none at 0 to 1."
    ∷ read changing_log (room 6) (accepted 3 2 2) changing_words
    ∷ report 3 2 changing_words (full 3) plain (sevens 36) (success 36) (RH 3 2 ++ GR 1 0 0 (badges (0 ∷ 1 ∷ [])) ++ GR 1 1 1 (badges (0 ∷ 2 ∷ [])) ++ ED 2)
    -- "* A log without CT: 10 bytes, a report of 10 bytes."
    ∷ length_of empty_log 10
    ∷ read empty_log (room 12) (accepted 4 3 0) empty_words
    ∷ report 4 3 empty_words (full 4) plain (sevens 10) (success 10) (RH 4 3 ++ ED 0)
    ∷ length_of (RH 4 3 ++ ED 0) 10
    -- "* Empty file: 1 at offset 0."
    ∷ read [] (room 12) (refused 1 0) (room 12)
    ∷ tidy [] (room 12) (sevens 34) (refused 1 0) (room 12) (sevens 34)
    -- "* A first CT 0–0: 4 at offset 4."
    ∷ read equal_badges (room 12) (refused 4 4) (room 12)
    ∷ tidy equal_badges (room 12) (sevens 34) (refused 4 4) (room 12) (sevens 34)
    ∷ []
