-- Sets of ticks, and the columns of a day's words. Private functions cite them; no promise rests on them.
use Rattle.std.specs.Prelude.{◌≡◌, Bool, true, false, List, ℕ, ◌+◌, ◌-◌, ◌*◌, ◌≤◌, ◌<◌, ltb, length, get_or}
use Rattle.sets.specs.Sets.{has, set_of, union}
use Rattle.sets.specs.Members.{capacity}
use Rattle.sets.specs.Words.{word_bits}
use Rattle.sets.specs.Tables.{tabulate, piecewise}
use Rattle.days.specs.Days.{adjacent}
use Rattle.logs.specs.declared.ticks.TickSet.{TickSet}

-- a set of ticks holds ticks below this number
abbrev pub tick_capacity : ℕ
tick_capacity = 2 * word_bits

-- tick t is in a set of ticks, by its low word or its high word
unfoldable pub has_tick : TickSet → ℕ → Bool
has_tick s t = elim (ltb t word_bits) [ true ↦ has s.low t | false ↦ has s.high (t - word_bits) ]

-- every tick of a set is below T
pub record TicksBelow (T : ℕ) (s : TickSet) : Type 0 where
  pub at : (t : ℕ) → T ≤ t → has_tick s t ≡ false

-- r is the first number that passes a test, of those from one on that are below another; the latter where there is none
pub record First (p : ℕ → Bool) (from until r : ℕ) : Type 0 where
  pub low : from ≤ r
  pub high : r ≤ until
  pub passes : r < until → p r ≡ true
  pub none : (t : ℕ) → from ≤ t → t < r → p t ≡ false

-- a table of sets, one a badge, with the members of one more set in those of some badges
unfoldable pub united : List ℕ → ℕ → ℕ → List ℕ
united table badges s = tabulate capacity (piecewise badges (λ v. union (get_or table v 0) s) (λ v. get_or table v 0))

-- the columns of u: for each larger badge v the set of those t, below m, for which they meet in tick from + t
pub record Columns (n : ℕ) (ws : List ℕ) (u from m : ℕ) (table : List ℕ) : Type 0 where
  pub whole : length table ≡ capacity
  pub at : (v : ℕ) → u < v → v < capacity → get_or table v 0 ≡ set_of m (λ t. adjacent n ws (from + t) u v)
