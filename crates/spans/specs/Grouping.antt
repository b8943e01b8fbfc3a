-- Records of one core as one group. "In the group statement a core's records then count as one group, whose members are those of its circles together."
use Rattle.std.specs.Prelude.{true, false, List, [], ◌∷◌}
use Rattle.sets.specs.Sets.{union}
use Rattle.spans.specs.SpanCores.{SpanCore}
use Rattle.spans.specs.Reports.{same}
use Rattle.spans.specs.CircleRecords.{with_members}

-- a record before a list of groups: where the first group has its order and span, its members count there
unfoldable pub join_to : SpanCore → List SpanCore → List SpanCore
join_to c [] = c ∷ []
join_to c (d ∷ ds) =
    elim (same c.order c.first c.last d.order d.first d.last) [ true ↦ with_members c (union c.members d.members) ∷ ds | false ↦ c ∷ (d ∷ ds) ]

-- the groups of a list of records
unfoldable pub grouped : List SpanCore → List SpanCore
grouped [] = []
grouped (c ∷ cs) = join_to c (grouped cs)
