-- The span that is one tick longer than a span at its start, and what is new on the shorter one.
use Rattle.std.specs.Prelude.{true, false, List, ℕ, zero, suc, ltb}
use Rattle.spans.specs.SpanCores.{core_on}
use Rattle.spans.specs.Plans.{score_on}

-- the score of a query on the span that is one tick longer at its start, 0 where there is none
unfoldable pub score_before : ℕ → List ℕ → ℕ → ℕ → ℕ → ℕ → ℕ
score_before n ws base query zero last = 0
score_before n ws base query (suc first) last = score_on n ws base query first last

-- the members of the core of a query's score on a span, where that is above the score on the span that is longer at its start; none elsewhere
unfoldable pub new_members : ℕ → List ℕ → ℕ → ℕ → ℕ → ℕ → ℕ
new_members n ws base query first last =
    elim (ltb (score_before n ws base query first last) (score_on n ws base query first last)) [ true ↦ core_on n ws base (score_on n ws base query first last) first last | false ↦ 0 ]
