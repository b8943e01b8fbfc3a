-- What a report keeps under thresholds: "the records of the full report that meet all three, in their order".
use Rattle.std.specs.Prelude.{Bool, List, [], ◌∷◌, ◌++◌}
use Rattle.sets.specs.Sets.{size}
use Rattle.sets.specs.Tables.{keep_if}
use Rattle.thresholds.specs.declared.Thresholds.{Thresholds}
use Rattle.thresholds.specs.Ranges.{are_enough}
use Rattle.spans.specs.Spans.{span_ticks}
use Rattle.spans.specs.SpanCores.{SpanCore}

-- the length of a record's span, its order and the number of its members are enough
unfoldable pub meets : Thresholds → SpanCore → Bool
meets least c = are_enough least (span_ticks c.first c.last) c.order (size c.members)

-- the records of a list that meet all three, in their order
unfoldable pub kept : Thresholds → List SpanCore → List SpanCore
kept least [] = []
kept least (c ∷ cs) = keep_if (meets least c) (c ∷ []) ++ kept least cs
