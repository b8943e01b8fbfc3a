-- What changes from one tick to another, and unions over a range of rows. (Cited by private functions alone.)
use Rattle.std.specs.Prelude.{List, ℕ, ◌≤◌, ◌<◌}
use Rattle.sets.specs.Sets.{In, symmetric_difference}
use Rattle.sets.specs.Words.{set_at}

-- the badges that are in the row of u in one of two ticks and not in the other
unfoldable pub change_at : List ℕ → List ℕ → ℕ → ℕ
change_at tick before u = symmetric_difference (set_at tick u) (set_at before u)

-- s has every badge that is in one of the rows of a range, its end left out, and no other
pub record UnionOver (row : ℕ → ℕ) (start end s : ℕ) : Type 0 where
  pub has : (u v : ℕ) → start ≤ u → u < end → In (row u) v → In s v
  pub of : (v : ℕ) → In s v → (u : ℕ) × (start ≤ u) × (u < end) × In (row u) v
