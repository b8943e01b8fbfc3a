-- What the functions of the sweep promise.
use Rattle.std.specs.Prelude.{◌≡◌, true, false, List, ℕ, ◌+◌, eqb, set}
use Rattle.sets.specs.Sets.{Sub, difference, full, smallest}
use Rattle.sets.specs.Members.{capacity, insert}
use Rattle.sets.specs.Tables.{piecewise}
use Rattle.chains.specs.Sweep.{spread, source_from, ticks_first}

-- a set with badge u where another set is not empty
unfoldable pub reached_by : ℕ → ℕ → ℕ → ℕ
reached_by sources s u = elim (eqb sources 0) [ true ↦ s | false ↦ insert s u ]

-- a trace of n badges in which badge u has tick t, and the smallest of a set as its source, where the set is not empty
unfoldable pub shown : ℕ → ℕ → ℕ → ℕ → List ℕ → List ℕ
shown n sources u t l = elim (eqb sources 0) [ true ↦ l | false ↦ set (set l u t) (n + u) (smallest capacity sources) ]

-- those who are reached in a tick, in which a set of badges may pass on, and in none before
abbrev pub new_in : ℕ → (ℕ → ℕ) → ℕ → ℕ
new_in n row passing = difference (spread n row passing) passing

-- what is known in the tick while some badges are unseen: those who are reached are there but for the unseen, and so are ticks and sources
pub record Turned (n : ℕ) (row : ℕ → ℕ) (t passing unseen reached : ℕ) (before trace : List ℕ) : Type 0 where
  pub within : Sub unseen (difference (full n) passing)
  pub spreads : reached ≡ difference (spread n row passing) unseen
  pub shows : (tick source : ℕ → ℕ) → before ≡ ticks_first n tick source
      → trace ≡ ticks_first n (piecewise unseen tick (piecewise (new_in n row passing) (λ u. t) tick)) (piecewise unseen source (piecewise (new_in n row passing) (source_from row passing) source))

-- what a tick t, in which a set of badges may pass on, makes of a trace of n badges, and who may pass on after it
pub record PassedTick (n : ℕ) (row : ℕ → ℕ) (t passing reached : ℕ) (before after : List ℕ) : Type 0 where
  pub spreads : reached ≡ spread n row passing
  pub shows : (tick source : ℕ → ℕ) → before ≡ ticks_first n tick source
      → after ≡ ticks_first n (piecewise (difference reached passing) (λ u. t) tick) (piecewise (difference reached passing) (source_from row passing) source)
