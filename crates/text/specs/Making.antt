-- What the contracts of the functions that make a line name.
use Rattle.std.specs.Prelude.{List, ℕ, suc, ◌+◌, ◌-◌, ◌*◌, ◌/◌}
use Rattle.records.specs.Outcomes.{Outcome, refused, success}
use Rattle.sets.specs.Members.{members}
use Rattle.spans.specs.SpanCores.{SpanCore}
use Rattle.spans.specs.Encoding.{record_bytes, head_badges}
use Rattle.text.specs.declared.line.Group.{Group}

-- room for the digits of any number
abbrev pub digit_room : ℕ
digit_room = 20

-- the bytes of the longest line of a listing: that of a group of 128 badges, of an order of three digits, on ticks of two
abbrev pub longest_line : ℕ
longest_line = 434

-- room for the badges below u, each after a space: a badge has a second digit from 10 on, and a third from 100 on
abbrev pub member_room : ℕ → ℕ
member_room u = 2 * u + (u - 10) + (u - 100)

-- the most lines of a listing: the first, and one for each of 5,040 records of 13 bytes, since 65,536 bytes hold no more of them and 10 others; and
-- fewer where records have 21 bytes
abbrev pub most_lines : ℕ
most_lines = 5041

-- the core that a group shows
abbrev pub core_of : Group → SpanCore
core_of g = record { order = g.order; first = g.first; last = g.last; members = members g.members }

-- how many lines an answer shows, with the report that it left: one for a refusal, and else one for each record that the size has room for, and the
-- first
abbrev pub line_count : Outcome ℕ → List ℕ → ℕ
line_count (refused number offset) report = 1
line_count (success size) report = suc ((size - 10) / record_bytes (head_badges report))
