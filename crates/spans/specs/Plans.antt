-- The shift plan: parts of a day around a query.
use Rattle.std.specs.Prelude.{Bool, List, [], ◌∷◌, ℕ, zero, suc, leb}
use Rattle.sets.specs.Bools.{◌and◌}
use Rattle.sets.specs.Sets.{is_sub, full}
use Rattle.cores.specs.Orders.{score}
use Rattle.cuts.specs.Sums.{best_ends}
use Rattle.spans.specs.Spans.{span_neighbours}
use Rattle.spans.specs.SpanCores.{SpanCore, core_on}

-- "The score of a part is the largest k whose core on that part contains the query, else 0."
unfoldable pub score_on : ℕ → List ℕ → ℕ → ℕ → ℕ → ℕ → ℕ
score_on n ws base query first last = score (span_neighbours n ws first last) base query

-- "Members are that core"; "a plan part of score 0 shows the reviewed set".
unfoldable pub members_on : ℕ → List ℕ → ℕ → ℕ → ℕ → ℕ → ℕ
members_on n ws base zero first last = base
members_on n ws base (suc k) first last = core_on n ws base (suc k) first last

unfoldable pub part_on : ℕ → List ℕ → ℕ → ℕ → ℕ → ℕ → SpanCore
part_on n ws base query first last =
    record { order = score_on n ws base query first last; first = first; last = last; members = members_on n ws base (score_on n ws base query first last) first last }

-- the parts of the runs of which the first starts at t, and which end at the ticks of the list
unfoldable pub parts_from : ℕ → List ℕ → ℕ → ℕ → ℕ → List ℕ → List SpanCore
parts_from n ws base query t [] = []
parts_from n ws base query t (e ∷ es) = part_on n ws base query t e ∷ parts_from n ws base query (suc e) es

-- The parts of a plan: "the one whose list of part ends comes first, compared number by number, among all plans of greatest sum". That `best_ends`
-- are the first of the best cuttings is a law of cuts (best-ends).
unfoldable pub parts_of : ℕ → ℕ → List ℕ → ℕ → ℕ → ℕ → List SpanCore
parts_of n T ws base query h = parts_from n ws base query 0 (best_ends (score_on n ws base query) T h)

-- the query names only the day's badges, and only reviewed ones
unfoldable pub is_query : ℕ → ℕ → Bool
is_query n query = is_sub query (full n)

unfoldable pub is_reviewed_query : ℕ → ℕ → Bool
is_reviewed_query base query = is_sub query base

-- there are from 1 to T parts
unfoldable pub is_parts : ℕ → ℕ → Bool
is_parts T h = leb 1 h and leb h T
