-- What the functions that find the scores of the spans with one first tick promise.
use Rattle.std.specs.Prelude.{List, ◌≡◌, ℕ, suc, ◌≤◌, ◌<◌, length, get_or}
use Rattle.sets.specs.Members.{members}
use Rattle.records.specs.Limits.{max_ticks}
use Rattle.cores.specs.Rows.{graph}
use Rattle.circles.specs.Circles.{circles, at_least}
use Rattle.spans.specs.Spans.{span_neighbours}
use Rattle.spans.specs.Plans.{score_on}
use Rattle.spans.specs.LongerSpans.{score_before, new_members}
use Rattle.groups.specs.declared.lines.Found.{Found}

-- what a line says of a last tick
abbrev pub none : Found
none = record { order = 0; circles = 0; large = 0; members = record { low = 0; high = 0 } }

abbrev pub at : List Found → ℕ → Found
at line last = get_or line last none

-- how many circles there are, and how many of them have members enough
pub record Counted (cs : List ℕ) (enough all large : ℕ) : Type 0 where
  pub in_all : all ≡ length cs
  pub with_enough : large ≡ length (at_least enough cs)

-- the circles of a set, counted in the graph of some rows, where a number of members is enough for one
pub record CoreCounted (rows : List ℕ) (s enough all large : ℕ) : Type 0 where
  pub counted : 1 ≤ enough → Counted (circles (graph rows) s) enough all large

-- scores by last tick: those of the spans that start one tick before first
pub record ScoresBefore (n T : ℕ) (ws : List ℕ) (base query first : ℕ) (line : List Found) : Type 0 where
  pub size : length line ≡ suc max_ticks
  pub score : (last : ℕ) → first ≤ last → last < T → (at line last).order ≡ score_before n ws base query first last
  pub end : (at line T).order ≡ 0

-- scores and members by last tick: those of the spans that start with first; and, where a number of members is enough for a circle, how many circles there are of
-- these members
pub record LineFound (n T : ℕ) (ws : List ℕ) (base query first enough : ℕ) (line line' : List Found) : Type 0 where
  pub size : length line' ≡ length line
  pub after : (last : ℕ) → T ≤ last → at line' last ≡ at line last
  pub score : (last : ℕ) → first ≤ last → last < T → (at line' last).order ≡ score_on n ws base query first last
  pub new : (last : ℕ) → first ≤ last → last < T → members (at line' last).members ≡ new_members n ws base query first last
  pub counted : 1 ≤ enough → (last : ℕ) → first ≤ last → last < T → 0 < members (at line' last).members
      → Counted (circles (span_neighbours n ws first last) (members (at line' last).members)) enough (at line' last).circles (at line' last).large
