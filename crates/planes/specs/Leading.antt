-- What the private function of `largest` promises.
use Rattle.std.specs.Prelude.{◌≡◌, ◌⊎◌, ℕ, ◌+◌, ◌*◌, ◌≤◌}
use Rattle.sets.specs.Sets.{intersection}

-- Of the lanes s of a number m those with a 1 in a plane, which is then the last digit of their number, if there are any; else all of them, with a 0.
pub record Narrowed (plane s m s' m' : ℕ) : Type 0 where
  pub step : ((intersection s plane ≡ 0) × (s' ≡ s) × (m' ≡ 2 * m)) ⊎ ((intersection s plane ≡ 0 → ⊥) × (s' ≡ intersection s plane) × (m' ≡ 2 * m + 1))
  pub small : m' ≤ 2 * m + 1
