-- Rows in the words of an array, a set for each badge that a set can hold.
use Rattle.std.specs.Prelude.{true, false, List, ℕ, zero, suc, ◌/◌, ltb}
use Rattle.sets.specs.Sets.{union, full}
use Rattle.sets.specs.Members.{capacity}
use Rattle.sets.specs.Tables.{tabulate, piecewise}
use Rattle.sets.specs.Words.{word_bits, places, set_at}

-- the rows with the sets of one tick over them: the tick's, as far as there are, then those that were there
unfoldable pub tick_over : List ℕ → List ℕ → List ℕ
tick_over tick rows = tabulate capacity (piecewise (full (places tick)) (set_at tick) (set_at rows))

-- how many rows are looked at of n badges: as many as half a word has bits, as a word has, or all
unfoldable pub in_use : ℕ → ℕ
in_use n = elim (ltb (word_bits / 2) n) [ true ↦ elim (ltb word_bits n) [ true ↦ capacity | false ↦ word_bits ] | false ↦ word_bits / 2 ]

-- every badge that is in one of the first m rows
unfoldable pub union_of : ℕ → List ℕ → ℕ
union_of zero rows = 0
union_of (suc m) rows = union (union_of m rows) (set_at rows m)
