-- Worked cases of request Nine: a day of 65 badges, whose sets have badges of both words, and the limits. What a row says is in Rows.
use Rattle.std.specs.Prelude.{List, [], ◌∷◌, ◌++◌, ℕ, replicate}
use Rattle.sets.specs.Sets.{full}
use Rattle.records.specs.Outcomes.{refused, success}
use Rattle.chains.specs.Traces.{never, no_source}
use Rattle.thresholds.specs.Ranges.{plain}
use Rattle.promises.specs.D1.{badges}
use Rattle.cases.specs.RecordBytes.{in8, BH, CT, ED, RH, RW, GW, PW, QW}
use Rattle.cases.specs.Rows.{Row, read, write, trace, core_numbers, report, plan, listing}
use Rattle.cases.specs.Table.{sevens, accepted}

-- n 65, T 1: contacts 0–64 and 63–64, as a log that names them from the other side, and tidy
unfoldable pub wide_log : List ℕ
wide_log = BH 65 1 ++ CT 64 63 0 0 ++ CT 64 0 0 0 ++ ED 2

unfoldable pub wide_tidy : List ℕ
wide_tidy = BH 65 1 ++ CT 0 64 0 0 ++ CT 63 64 0 0 ++ ED 2

-- its words, "word 2(t×n+u) and the next": badge 0 has badge 64, bit 0 of its second word; so has badge 63; and badge 64 has bits 0 and 63 of its first
unfoldable pub wide_words : List ℕ
wide_words = 0 ∷ 1 ∷ [] ++ replicate 124 0 ++ 0 ∷ 1 ∷ [] ++ 9223372036854775809 ∷ 0 ∷ []

-- the same contacts in two ticks
unfoldable pub two_ticks : List ℕ
two_ticks = wide_words ++ wide_words

-- badges 0, 63 and 64, and badge 64 alone, each in 16 bytes: badge 63 is the highest bit of the eighth byte, badge 64 the lowest of the ninth
unfoldable pub three : List ℕ
three = 1 ∷ 0 ∷ 0 ∷ 0 ∷ 0 ∷ 0 ∷ 0 ∷ 128 ∷ in8 1

unfoldable pub badge64 : List ℕ
badge64 = in8 0 ++ in8 1

-- the words of a day of 64 badges and one tick in which nobody met, and with badge 64 among those in contact with badge 0
unfoldable pub calm64 : List ℕ
calm64 = replicate 128 0

unfoldable pub foreign64 : List ℕ
foreign64 = 0 ∷ 1 ∷ [] ++ replicate 126 0

-- its core numbers, its report, and its plan in one part around badge 64: "above that marks RW, GW, PW and QW replace RH, GR, PH and PT, with
-- 16-byte sets"
unfoldable pub wide_numbers : Row
wide_numbers = core_numbers 65 1 wide_words (full 65) 0 0 (sevens 65) (success 65) (1 ∷ [] ++ replicate 62 0 ++ 1 ∷ 1 ∷ [])

unfoldable pub wide_report : Row
wide_report = report 65 1 wide_words (full 65) plain (sevens 31) (success 31) (RW 65 1 ++ GW 1 0 0 three ++ ED 1)

unfoldable pub wide_plan : Row
wide_plan = plan 65 1 wide_words (full 65) (badges (64 ∷ [])) 1 (sevens 48) (success 48) (PW 65 1 1 badge64 ++ QW 1 0 0 three ++ ED 1)

unfoldable pub wide : List Row
wide =
    -- the day's words, all 2×n×T of them, and its tidy log
    read wide_log (sevens 130) (accepted 65 1 2) wide_words
    ∷ read wide_log (sevens 129) (refused 8 0) (sevens 129)
    ∷ write 65 1 wide_words (sevens 22) (success 22) wide_tidy
    ∷ wide_numbers
    ∷ wide_report
    ∷ wide_plan
    -- in two ticks: from badge 0 in tick 0 badge 64 is reached at once, and badge 63 through badge 64 in tick 1
    ∷ trace 65 2 two_ticks 0 0 (sevens 130) (success 130) (0 ∷ [] ++ replicate 62 never ++ 1 ∷ 0 ∷ [] ++ no_source ∷ [] ++ replicate 62 no_source ++ 64 ∷ 0 ∷ [])
    -- "Refusals 3 and 10 now allow n up to 128, so document 01's refused n 65 becomes n 129."
    ∷ read (BH 128 1 ++ ED 0) (sevens 256) (accepted 128 1 0) (replicate 256 0)
    ∷ read (BH 129 1 ++ ED 0) (sevens 258) (refused 3 0) (sevens 258)
    ∷ write 129 1 (replicate 258 0) (sevens 10) (refused 10 0) (sevens 10)
    -- badge 64 in a day of 64 badges: in its words, in a query, and in a review
    ∷ write 64 1 calm64 (sevens 10) (success 10) (BH 64 1 ++ ED 0)
    ∷ write 64 1 foreign64 (sevens 10) (refused 11 0) (sevens 10)
    ∷ plan 64 1 calm64 (full 64) (badges (64 ∷ [])) 1 (sevens 32) (refused 13 0) (sevens 32)
    ∷ report 64 1 calm64 (badges (64 ∷ [])) plain (sevens 10) (refused 20 0) (sevens 10)
    -- up to 64 badges the marks stay
    ∷ report 64 1 calm64 (full 64) plain (sevens 10) (success 10) (RH 64 1 ++ ED 0)
    -- the listing program "prints refusal 8 for a day that needs more" than 12,288 words: 2×65×95 are 12,350
    ∷ listing (BH 65 95 ++ ED 0) "refused 8 at 0\n"
    ∷ []
