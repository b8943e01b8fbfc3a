-- Spans of a day. "A span is a first and a last tick of the day, the first not after the last, with the ticks between; both ends count."
use Rattle.std.specs.Prelude.{Bool, List, ℕ, suc, ◌-◌, ◌≤◌, ◌<◌, ltb, leb}
use Rattle.sets.specs.Bools.{◌and◌, ◌or◌, all}
use Rattle.sets.specs.Sets.{set_of, full}
use Rattle.sets.specs.Members.{capacity}
use Rattle.sets.specs.Tables.{tabulate, piecewise}
use Rattle.sets.specs.Words.{words_of}
use Rattle.days.specs.Days.{LentDay, adjacent}

-- first and last are a span of a day of T ticks
unfoldable pub is_span : ℕ → ℕ → ℕ → Bool
is_span T first last = leb first last and ltb last T

-- how many ticks a span has
abbrev pub span_ticks : ℕ → ℕ → ℕ
span_ticks first last = suc last - first

-- a span of a lent day
pub record SpanOfDay (n T : ℕ) (ws : List ℕ) (first last : ℕ) : Type 0 where
  pub lent : LentDay n T ws
  pub rising : first ≤ last
  pub inside : last < T

-- u and v are in contact in every tick of a span
unfoldable pub throughout : ℕ → List ℕ → ℕ → ℕ → ℕ → ℕ → Bool
throughout n ws first last u v = all (suc last) (λ t. ltb t first or adjacent n ws t u v)

-- The badges in contact with u in every tick of a span: its neighbours in the span's intersection graph.
unfoldable pub span_neighbours : ℕ → List ℕ → ℕ → ℕ → ℕ → ℕ
span_neighbours n ws first last u = set_of n (throughout n ws first last u)

-- "The contacts that hold throughout a span are worked out as one row per badge": n rows, and empty ones for the badges from n up, as sets
unfoldable pub span_rows : ℕ → List ℕ → ℕ → ℕ → List ℕ
span_rows n ws first last = tabulate capacity (piecewise (full n) (span_neighbours n ws first last) (λ u. 0))

-- the words of an array that holds these rows
abbrev pub span_words : ℕ → List ℕ → ℕ → ℕ → List ℕ
span_words n ws first last = words_of (span_rows n ws first last)
