-- The group report: "GR records hold the maximal cores, each once, by first tick and then last tick, rising."
-- (Maximal span-cores: source 000, definition 3.)
use Rattle.std.specs.Prelude.{Bool, List, [], ◌∷◌, ℕ, suc, leb, eqb}
use Rattle.sets.specs.Bools.{◌and◌, ◌or◌, isnt, all}
use Rattle.sets.specs.Tables.{concat_below, keep_if}
use Rattle.spans.specs.Spans.{is_span}
use Rattle.spans.specs.SpanCores.{SpanCore, core_on, has_core}

-- order k' and span first' to last' are at least as large as k and first to last ("span: containing it"), and they are the same
unfoldable pub as_large : ℕ → ℕ → ℕ → ℕ → ℕ → ℕ → Bool
as_large k first last k' first' last' = leb k k' and leb first' first and leb last last'

unfoldable pub same : ℕ → ℕ → ℕ → ℕ → ℕ → ℕ → Bool
same k first last k' first' last' = eqb k' k and eqb first' first and eqb last' last

-- "A core is maximal if no other core has order and span both at least as large." No order of a core is above n.
unfoldable pub is_maximal : ℕ → ℕ → List ℕ → ℕ → ℕ → ℕ → ℕ → Bool
is_maximal n T ws base k first last = all (suc n) (λ k'. all T (λ first'. all T (λ last'.
    isnt (is_span T first' last' and as_large k first last k' first' last' and has_core n ws base k' first' last') or same k first last k' first' last')))

-- order k has a core on the span, and it is maximal
unfoldable pub is_group : ℕ → ℕ → List ℕ → ℕ → ℕ → ℕ → ℕ → Bool
is_group n T ws base k first last = leb 1 k and has_core n ws base k first last and is_maximal n T ws base k first last

-- the maximal cores on a span (there is at most one), on the spans that start with a tick, and on all spans
unfoldable pub groups_on : ℕ → ℕ → List ℕ → ℕ → ℕ → ℕ → List SpanCore
groups_on n T ws base first last =
    concat_below (suc n) (λ k. keep_if (is_group n T ws base k first last) (record { order = k; first = first; last = last; members = core_on n ws base k first last } ∷ []))

unfoldable pub groups_from : ℕ → ℕ → List ℕ → ℕ → ℕ → List SpanCore
groups_from n T ws base first = concat_below T (λ last. keep_if (leb first last) (groups_on n T ws base first last))

unfoldable pub groups_of : ℕ → ℕ → List ℕ → ℕ → List SpanCore
groups_of n T ws base = concat_below T (groups_from n T ws base)
