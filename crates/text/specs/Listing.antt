-- The listing of a log, line by line: "First line: n, T, number of groups. Then per group its order, first and last tick, members rising. A
-- refusal prints `refused N at OFFSET`." Every line ends with a newline.
use Rattle.std.specs.Prelude.{true, false, List, [], ◌∷◌, ◌++◌, map, ℕ, ltb, length}
use Rattle.sets.specs.Ascii.{ascii}
use Rattle.sets.specs.Sets.{has, full}
use Rattle.sets.specs.Members.{capacity}
use Rattle.sets.specs.Tables.{concat_below, keep_if}
use Rattle.records.specs.declared.record.Record.{Record}
use Rattle.records.specs.Limits.{words_for}
use Rattle.records.specs.Outcomes.{Outcome, refused, success}
use Rattle.records.specs.Judging.{judge}
use Rattle.records.specs.Meaning.{badges_of, ticks_of}
use Rattle.days.specs.Days.{day_of}
use Rattle.thresholds.specs.Ranges.{plain}
use Rattle.spans.specs.SpanCores.{SpanCore}
use Rattle.spans.specs.CircleRecords.{shown_records}
use Rattle.spans.specs.Encoding.{report_bytes}
use Rattle.text.specs.Decimal.{decimal}

abbrev pub newline : List ℕ
newline = ascii "\n"

-- a label and a number after it
unfoldable pub field : List ℕ → ℕ → List ℕ
field label n = label ++ decimal n

unfoldable pub head_line : ℕ → ℕ → ℕ → List ℕ
head_line n T groups = field (ascii "badges ") n ++ (field (ascii " ticks ") T ++ (field (ascii " groups ") groups ++ newline))

-- the members of a set, rising, each after a space
unfoldable pub member_list : ℕ → List ℕ
member_list s = concat_below capacity (λ u. keep_if (has s u) (field (ascii " ") u))

unfoldable pub group_line : SpanCore → List ℕ
group_line c = field (ascii "order ") c.order ++ (field (ascii " ticks ") c.first ++ (field (ascii " to ") c.last ++ (ascii " badges" ++ (member_list c.members ++ newline))))

unfoldable pub refusal_line : ℕ → ℕ → List ℕ
refusal_line number offset = field (ascii "refused ") number ++ (field (ascii " at ") offset ++ newline)

-- the lines of a report: the first, and one for each group
unfoldable pub report_lines : ℕ → ℕ → List SpanCore → List (List ℕ)
report_lines n T groups = head_line n T (length groups) ∷ map group_line groups

-- The listing program has room for a report of so many bytes: "9 applies as ever, and the listing program, which counts and prints each circle as a
-- group, prints it for a report above 65,536 bytes."
abbrev pub listing_room : ℕ
listing_room = 65536

-- the lines of a report for which there is room, and the one line of refusal 9 for a longer one
unfoldable pub listed_lines : ℕ → ℕ → List SpanCore → List (List ℕ)
listed_lines n T groups = elim (ltb listing_room (length (report_bytes n T groups))) [ true ↦ refusal_line 9 0 ∷ [] | false ↦ report_lines n T groups ]

-- And it has so many words: "The listing program now has 12,288 words, so no day of up to 64 badges gets 8, and prints refusal 8 for a day that needs more."
abbrev pub listing_words : ℕ
listing_words = 12288

-- the groups of a log's listing: each circle is one, and all n badges are under review
unfoldable pub listed_groups : List Record → List SpanCore
listed_groups rs = shown_records (badges_of rs) (ticks_of rs) (day_of rs) (full (badges_of rs)) plain

-- the lines of an accepted log for whose day there are words, and the one line of refusal 8 for one that needs more
unfoldable pub day_lines : List Record → List (List ℕ)
day_lines rs = elim (ltb listing_words (words_for (badges_of rs) (ticks_of rs))) [ true ↦ refusal_line 8 0 ∷ [] | false ↦ listed_lines (badges_of rs) (ticks_of rs) (listed_groups rs) ]

-- the lines of a log, by what judging it comes to
unfoldable pub judged_lines : Outcome (List Record) → List (List ℕ)
judged_lines (refused number offset) = refusal_line number offset ∷ []
judged_lines (success rs) = day_lines rs

-- lines end to end, and the listing of a log: its text in bytes
unfoldable pub joined : List (List ℕ) → List ℕ
joined [] = []
joined (l ∷ ls) = l ++ joined ls

unfoldable pub listing : List ℕ → List ℕ
listing log = joined (judged_lines (judge log))
