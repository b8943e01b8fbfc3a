-- Further cases, most of them about buffers of other sizes and the order of judging: they have no * in document 01. What a row says is in Rows.
use Rattle.std.specs.Prelude.{List, [], ◌∷◌, ◌++◌, ℕ}
use Rattle.sets.specs.Words.{words_of}
use Rattle.sets.specs.Sets.{full}
use Rattle.records.specs.Outcomes.{refused, success}
use Rattle.sets.specs.Ascii.{ascii}
use Rattle.thresholds.specs.Ranges.{plain}
use Rattle.promises.specs.D1.{badges, d1_words}
use Rattle.cases.specs.RecordBytes.{BH, CT, ED, RH, GR}
use Rattle.cases.specs.Rows.{Row, read, tidy, write, core_numbers, report, plan, listing}
use Rattle.cases.specs.Table.{sevens, room, less, more, accepted, d1_log, d1_variant, changing_words, empty_log, empty_words, equal_badges}

-- n 4, T 3: 2–3 in ticks 0 to 2, and 0–1, 0–2, 1–2 in tick 1, as a log and in words
unfoldable pub nested_log : List ℕ
nested_log = BH 4 3 ++ CT 2 3 0 2 ++ CT 0 1 1 1 ++ CT 0 2 1 1 ++ CT 1 2 1 1 ++ ED 4

unfoldable pub nested_words : List ℕ
nested_words = words_of (
    (badges [] ∷ badges [] ∷ badges (3 ∷ []) ∷ badges (2 ∷ []) ∷ [])
    ++ (badges (1 ∷ 2 ∷ []) ∷ badges (0 ∷ 2 ∷ []) ∷ badges (0 ∷ 1 ∷ 3 ∷ []) ∷ badges (2 ∷ []) ∷ [])
    ++ (badges [] ∷ badges [] ∷ badges (3 ∷ []) ∷ badges (2 ∷ []) ∷ []))

unfoldable pub further : List Row
further =
    -- read: a word after the day's stays, and one word less is too few
    read d1_log (more 12 1) (accepted 4 3 4) (d1_words ++ 7 ∷ [])
    ∷ read d1_log (less 12) (refused 8 0) (less 12)
    -- one byte alone, a mark alone, and an ED first
    ∷ read (ascii "B") (room 12) (refused 1 0) (room 12)
    ∷ read (ascii "BH") (room 12) (refused 1 0) (room 12)
    ∷ read (ED 0) (room 12) (refused 2 0) (room 12)
    -- "T 97: 3", and n 129 since request Nine
    ∷ read (BH 129 3 ++ ED 0) (room 12) (refused 3 0) (room 12)
    ∷ read (BH 4 97 ++ ED 0) (room 12) (refused 3 0) (room 12)
    -- a second BH
    ∷ read (BH 4 3 ++ BH 4 3) (room 12) (refused 2 4) (room 12)
    -- a wrong count comes before a byte after ED
    ∷ read (BH 4 3 ++ ED 1 ++ 9 ∷ []) (room 12) (refused 6 4) (room 12)
    ∷ read (BH 4 3 ++ ED 0 ++ 9 ∷ []) (room 12) (refused 7 10) (room 12)
    -- a refused log comes before too few words
    ∷ read equal_badges (less 12) (refused 4 4) (less 12)
    -- tidy: words and bytes after the answer stay; where the buffer is too short, the words hold the day; too few words come before that
    ∷ tidy d1_variant (more 12 1) (sevens 34) (success 34) (d1_words ++ 7 ∷ []) d1_log
    ∷ tidy d1_variant (room 12) (sevens 36) (success 34) d1_words (d1_log ++ 7 ∷ 7 ∷ [])
    ∷ tidy d1_variant (room 12) (sevens 33) (refused 9 0) d1_words (sevens 33)
    ∷ tidy d1_variant (less 12) (sevens 33) (refused 8 0) (less 12) (sevens 33)
    -- the pair of the smaller badge comes first, though its larger badge is the larger one
    ∷ tidy (BH 4 1 ++ CT 2 1 0 0 ++ CT 0 3 0 0 ++ ED 2) (room 4) (sevens 22) (success 22) (words_of (badges (3 ∷ []) ∷ badges (2 ∷ []) ∷ badges (1 ∷ []) ∷ badges (0 ∷ []) ∷ [])) (BH 4 1 ++ CT 0 3 0 0 ++ CT 1 2 0 0 ++ ED 2)
    -- a log without CT tidies to itself
    ∷ tidy empty_log (room 12) (sevens 10) (success 10) empty_words empty_log
    -- write: a byte after the answer stays, and 33 bytes are too few
    ∷ write 4 3 d1_words (sevens 35) (success 34) (d1_log ++ 7 ∷ [])
    ∷ write 4 3 d1_words (sevens 33) (refused 9 0) (sevens 33)
    -- core numbers: a byte after the answer stays, and 3 bytes are too few
    ∷ core_numbers 4 3 d1_words (full 4) 0 1 (sevens 5) (success 4) (2 ∷ 2 ∷ 2 ∷ 1 ∷ 7 ∷ [])
    ∷ core_numbers 4 3 d1_words (full 4) 0 1 (sevens 3) (refused 9 0) (sevens 3)
    -- no spans: the first tick after the last, and a last tick of T; both come before 9
    ∷ core_numbers 4 3 d1_words (full 4) 2 1 (sevens 3) (refused 12 0) (sevens 3)
    ∷ core_numbers 4 3 d1_words (full 4) 0 3 (sevens 3) (refused 12 0) (sevens 3)
    -- words that are no day, too few words and no ticks come before that
    ∷ core_numbers 4 3 (room 12) (full 4) 2 1 (sevens 3) (refused 11 0) (sevens 3)
    ∷ core_numbers 4 3 (less 12) (full 4) 2 1 (sevens 3) (refused 8 0) (sevens 3)
    ∷ core_numbers 4 0 [] (full 4) 2 1 [] (refused 10 0) []
    -- partners that change tick by tick: in one tick, and throughout both
    ∷ core_numbers 3 2 changing_words (full 3) 0 0 (sevens 3) (success 3) (1 ∷ 1 ∷ 0 ∷ [])
    ∷ core_numbers 3 2 changing_words (full 3) 0 1 (sevens 3) (success 3) (0 ∷ 0 ∷ 0 ∷ [])
    -- groups come by first tick and then last tick, though this day's group of order 2 lies inside the span of the other
    ∷ read nested_log (room 12) (accepted 4 3 4) nested_words
    ∷ report 4 3 nested_words (full 4) plain (sevens 36) (success 36) (RH 4 3 ++ GR 1 0 2 (badges (2 ∷ 3 ∷ [])) ++ GR 2 1 1 (badges (0 ∷ 1 ∷ 2 ∷ [])) ++ ED 2)
    -- plan: 31 bytes are too few; no parts; a badge of n or more comes before too many parts, and both before 9
    ∷ plan 4 3 d1_words (full 4) (badges (0 ∷ [])) 1 (sevens 31) (refused 9 0) (sevens 31)
    ∷ plan 4 3 d1_words (full 4) (badges (2 ∷ [])) 0 (sevens 3) (refused 14 0) (sevens 3)
    ∷ plan 4 3 d1_words (full 4) (badges (2 ∷ [])) 4 (sevens 3) (refused 14 0) (sevens 3)
    ∷ plan 4 3 d1_words (full 4) (badges (4 ∷ [])) 4 (sevens 3) (refused 13 0) (sevens 3)
    -- the listing: "For D1 it writes exactly"; a day without groups; "A refusal prints `refused N at OFFSET`."
    ∷ listing d1_log "badges 4 ticks 3 groups 2\norder 2 ticks 0 to 1 badges 0 1 2\norder 1 ticks 0 to 2 badges 2 3\n"
    ∷ listing empty_log "badges 4 ticks 3 groups 0\n"
    ∷ listing [] "refused 1 at 0\n"
    ∷ listing equal_badges "refused 4 at 4\n"
    ∷ []
