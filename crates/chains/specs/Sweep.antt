-- The trace worked out: a sweep over the ticks from s on, with the set of the badges that may pass on.
use Rattle.std.specs.Prelude.{Bool, List, ◌++◌, ℕ, zero, suc, ◌+◌, ◌-◌, eqb}
use Rattle.sets.specs.Bools.{isnt}
use Rattle.sets.specs.Sets.{intersection, union, difference, only, set_of, smallest}
use Rattle.sets.specs.Members.{capacity}
use Rattle.sets.specs.Tables.{tabulate, piecewise}
use Rattle.days.specs.Days.{neighbours}
use Rattle.chains.specs.Traces.{never, no_source}

-- two sets have a badge in common
unfoldable pub overlap : ℕ → ℕ → Bool
overlap s t = isnt (eqb (intersection s t) 0)

-- a set, and every badge that is in contact with one of it in a tick: row u has the badges in contact with u
unfoldable pub spread : ℕ → (ℕ → ℕ) → ℕ → ℕ
spread n row s = union s (set_of n (λ u. overlap (row u) s))

-- the source of u in a tick in which the badges of a set may pass on
unfoldable pub source_from : (ℕ → ℕ) → ℕ → ℕ → ℕ
source_from row s u = smallest capacity (intersection (row u) s)

-- a trace by the tick and the source of each badge: "2n bytes, ticks first"
unfoldable pub ticks_first : ℕ → (ℕ → ℕ) → (ℕ → ℕ) → List ℕ
ticks_first n tick source = tabulate n tick ++ tabulate n source

-- the sweep over k ticks: s, s + 1, .., where rows t u has the badges in contact with u in tick t
module _ (n : ℕ) (rows : ℕ → ℕ → ℕ) (index s : ℕ) where
  -- the badges that may pass on in tick s + k: the index, and those reached in a tick before
  unfoldable pub passing : ℕ → ℕ
  passing zero = only index
  passing (suc k) = spread n (rows (s + k)) (passing k)

  -- the badges that are reached in tick s + k, and in none before
  unfoldable pub newly : ℕ → ℕ
  newly k = difference (passing (suc k)) (passing k)

  -- the tick and the source of each badge after k ticks
  unfoldable pub tick_after : ℕ → ℕ → ℕ
  tick_after zero = piecewise (only index) (λ u. s) (λ u. never)
  tick_after (suc k) = piecewise (newly k) (λ u. s + k) (tick_after k)

  unfoldable pub source_after : ℕ → ℕ → ℕ
  source_after zero = λ u. no_source
  source_after (suc k) = piecewise (newly k) (source_from (rows (s + k)) (passing k)) (source_after k)

-- the trace of a day of T ticks, once the sweep is over them all
unfoldable pub trace_bytes : ℕ → ℕ → List ℕ → ℕ → ℕ → List ℕ
trace_bytes n T ws index s = ticks_first n (tick_after n (neighbours n ws) index s (T - s)) (source_after n (neighbours n ws) index s (T - s))
