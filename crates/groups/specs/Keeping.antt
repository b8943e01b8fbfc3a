-- Maximal cores that are kept: what the functions promise that find them.
use Rattle.std.specs.Prelude.{List, [], ◌∷◌, ◌++◌, map, ◌≡◌, ℕ, suc, ◌+◌, ◌-◌, ◌≤◌, ◌<◌, leb, ltb, length, take}
use Rattle.sets.specs.Bools.{◌and◌}
use Rattle.sets.specs.Tables.{concat_below, keep_if}
use Rattle.std.specs.Int.{w64, from_le_bytes}
use Rattle.sets.specs.Members.{set_of_two, members}
use Rattle.records.specs.Limits.{max_ticks}
use Rattle.circles.specs.Circles.{at_least}
use Rattle.thresholds.specs.declared.Thresholds.{Thresholds}
use Rattle.spans.specs.SpanCores.{SpanCore}
use Rattle.spans.specs.Reports.{groups_of}
use Rattle.spans.specs.KeptGroups.{kept}
use Rattle.spans.specs.CircleRecords.{circles_of}
use Rattle.spans.specs.Encoding.{max_cores}
use Rattle.groups.specs.declared.encoding.Shown.{Shown}
use Rattle.groups.specs.declared.kept.Kept.{Kept}
use Rattle.groups.specs.declared.kept.Stored.{Stored}
use Rattle.groups.specs.declared.kept.Cores.{Cores}
use Rattle.groups.specs.declared.lines.Found.{Found}
use Rattle.groups.specs.Lines.{at}

-- what a record of the program shows
abbrev pub core_of : Shown → SpanCore
core_of r = record { order = r.order; first = r.first; last = r.last; members = members r.members }

-- the core that is kept
abbrev pub kept_core : Kept → SpanCore
kept_core k = record { order = k.order; first = k.first; last = k.last; members = members k.members }

-- the core that a place says, the words of its members in bytes
abbrev pub stored_core : Stored → SpanCore
stored_core s = record { order = s.order; first = s.first; last = s.last; members = set_of_two (from_le_bytes w64 s.lower) (from_le_bytes w64 s.upper) }

-- what it says: the core, and how many circles it has
unfoldable pub said : Stored → SpanCore × ℕ
said s = (stored_core s, s.circles)

unfoldable pub with_circles : (SpanCore → ℕ) → SpanCore → SpanCore × ℕ
with_circles circles c = (c, circles c)

-- how many records a list of cores makes, by how many each of them makes
unfoldable pub total : (SpanCore → ℕ) → List SpanCore → ℕ
total large [] = 0
total large (c ∷ cs) = large c + total large cs

-- Cores are kept after those that are: by how many circles each has, and how many of them are large, the records that it makes.
pub record KeepsCores (circles large : SpanCore → ℕ) (cores : List SpanCore) (before after : Cores) : Type 0 where
  pub number : after.count ≡ before.count + length cores
  pub made : after.records ≡ before.records + total large cores
  pub in_kept : map said (take after.count after.kept) ≡ map said (take before.count before.kept) ++ map (with_circles circles) cores

-- the cores of the spans that start with a tick, by last tick: those with members whose order is above the next
unfoldable pub line_list : List Found → ℕ → ℕ → List SpanCore
line_list line first T =
    concat_below T (λ last. keep_if (leb first last) (keep_if (ltb 0 (members (at line last).members) and ltb (at line (suc last)).order (at line last).order) (record { order = (at line last).order; first = first; last = last; members = members (at line last).members } ∷ [])))

-- how many circles a line says of a core, and how many of them have members enough
abbrev pub circles_at : List Found → SpanCore → ℕ
circles_at line c = (at line c.last).circles

abbrev pub large_at : List Found → SpanCore → ℕ
large_at line c = (at line c.last).large

-- sizes that let a line of cores be kept: at most one for each last tick from the first tick on
pub record LineRoom (T first : ℕ) (cores : Cores) : Type 0 where
  pub short : T ≤ max_ticks
  pub inside : first < T
  pub few : cores.count + (T - first) ≤ max_cores

-- how many circles a core of a day has, and how many of them have members enough
unfoldable pub circle_count : ℕ → List ℕ → SpanCore → ℕ
circle_count n ws c = length (circles_of n ws c)

unfoldable pub record_count : ℕ → List ℕ → Thresholds → SpanCore → ℕ
record_count n ws least c = length (at_least least.members (circles_of n ws c))

-- A day's maximal cores that meet the thresholds are those that are kept, and their circles that have members enough make so many records.
pub record FindsCores (n T : ℕ) (ws : List ℕ) (base : ℕ) (least : Thresholds) (cores : Cores) : Type 0 where
  pub number : cores.count ≡ length (kept least (groups_of n T ws base))
  pub made : cores.records ≡ total (record_count n ws least) (kept least (groups_of n T ws base))
  pub in_kept : map said (take cores.count cores.kept) ≡ map (with_circles (circle_count n ws)) (kept least (groups_of n T ws base))
