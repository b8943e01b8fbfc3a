-- Badges under review: "all cores are cores among those badges".
use Rattle.std.specs.Prelude.{Bool, ℕ, ◌<◌, ltb}
use Rattle.sets.specs.Bools.{◌and◌}
use Rattle.sets.specs.Sets.{Sub, is_sub, full}

-- a non-empty set of the day's badges: any other is refused, "20, the set is empty or has a badge of n or more"
unfoldable pub is_review : ℕ → ℕ → Bool
is_review n base = ltb 0 base and is_sub base (full n)

-- the same, as what statements ask
pub record Review (n base : ℕ) : Type 0 where
  pub some : 0 < base
  pub named : Sub base (full n)
