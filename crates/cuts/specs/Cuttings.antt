-- The ticks 0 to T - 1 cut into runs, the cuttings of greatest sum, and the first of these. The score of a run is any function of its first and
-- last tick. (Standard terms: a cutting is a segmentation, a run a segment.)
use Rattle.std.specs.Prelude.{◌≡◌, ℕ, suc, ◌+◌, ◌≤◌, ◌<◌, length, get_or}
use mathlib.Core.List.{List, [], ◌∷◌, Lexᴰ}

-- The ticks 0 to T - 1 cut into h runs, each of at least one tick, by the list of the runs' last ticks: each run ends after the one
-- before it, and the last with tick T - 1.
pub record Cutting (T h : ℕ) (ends : List ℕ) : Type 0 where
  pub some : 1 ≤ h
  pub count : length ends ≡ h
  pub rising : (i : ℕ) → suc i < h → get_or ends i 0 < get_or ends (suc i) 0
  pub last : (i : ℕ) → suc i ≡ h → suc (get_or ends i 0) ≡ T

-- the sum of scores over the runs of which the first starts at t, and which end at the ticks of the list
unfoldable pub total : (ℕ → ℕ → ℕ) → ℕ → List ℕ → ℕ
total score t [] = 0
total score t (e ∷ es) = score t e + total score (suc e) es

-- a cutting into h runs whose sum no other exceeds
pub record IsBest (score : ℕ → ℕ → ℕ) (T h : ℕ) (ends : List ℕ) : Type 0 where
  pub cutting : Cutting T h ends
  pub greatest : (es : List ℕ) → Cutting T h es → total score 0 es ≤ total score 0 ends

-- One list of numbers comes before another, compared number by number: at the first place where they differ its number is the smaller, or it has
-- ended. (Standard term: lexicographic order.)
abbrev pub ComesBefore : List ℕ → List ℕ → Type 0
ComesBefore xs ys = Lexᴰ ◌<◌ xs ys

-- the first of the best cuttings: a best cutting, and no other best cutting comes before it
pub record IsFirstBest (score : ℕ → ℕ → ℕ) (T h : ℕ) (ends : List ℕ) : Type 0 where
  pub best : IsBest score T h ends
  pub first : (es : List ℕ) → IsBest score T h es → ComesBefore es ends → ⊥
