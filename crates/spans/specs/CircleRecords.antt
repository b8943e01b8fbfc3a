-- "From this release each maximal core is reported by its circles: its members split by who is joined to whom through chains of the span's pairs
-- between members. There is one GR record each, ordered by first tick, last tick, smallest member."
use Rattle.std.specs.Prelude.{List, [], ◌∷◌, ◌++◌, map, ℕ}
use Rattle.circles.specs.Circles.{circles}
use Rattle.thresholds.specs.declared.Thresholds.{Thresholds}
use Rattle.spans.specs.Spans.{span_neighbours}
use Rattle.spans.specs.SpanCores.{SpanCore}
use Rattle.spans.specs.Reports.{groups_of}
use Rattle.spans.specs.KeptGroups.{kept}

-- a record of a core's order and span
abbrev pub with_members : SpanCore → ℕ → SpanCore
with_members c s = record { order = c.order; first = c.first; last = c.last; members = s }

-- the circles of a core on its span, by smallest member
unfoldable pub circles_of : ℕ → List ℕ → SpanCore → List ℕ
circles_of n ws c = circles (span_neighbours n ws c.first c.last) c.members

-- the records of one core, and those of a list of cores
unfoldable pub records_of : ℕ → List ℕ → SpanCore → List SpanCore
records_of n ws c = map (with_members c) (circles_of n ws c)

unfoldable pub circle_records : ℕ → List ℕ → List SpanCore → List SpanCore
circle_records n ws [] = []
circle_records n ws (c ∷ cs) = records_of n ws c ++ circle_records n ws cs

-- The records of a report: those of the maximal cores that meet the thresholds. "Domination is still by order and span of the whole core. Least members
-- is counted per circle." Least length and least order are the same for all records of a core.
unfoldable pub shown_records : ℕ → ℕ → List ℕ → ℕ → Thresholds → List SpanCore
shown_records n T ws base least = kept least (circle_records n ws (groups_of n T ws base))
