-- Chains of contacts. (A chain is a time-respecting path of a temporal graph.)
use Rattle.std.specs.Prelude.{List, ℕ, ◌≤◌, ◌<◌}
use Rattle.sets.specs.Sets.{In}
use Rattle.days.specs.Days.{neighbours}

-- u and v are in contact in tick t of a day, by its words
pub record Contact (n T : ℕ) (ws : List ℕ) (t u v : ℕ) : Type 0 where
  pub tick : t < T
  pub one : u < n
  pub other : v < n
  pub meet : In (neighbours n ws t u) v

-- A chain from the index that arrives at a badge in a tick, over any contacts, given as tick, badge and badge. "A chain uses contacts in strictly
-- rising ticks, the first in s or later."
pub data Chain (Meet : ℕ → ℕ → ℕ → Type 0) (index s : ℕ) : ℕ → ℕ → Type 0 where
  first : {t v : ℕ} → s ≤ t → Meet t index v → Chain Meet index s v t
  next : {r t u v : ℕ} → Chain Meet index s u r → r < t → Meet t u v → Chain Meet index s v t

-- t is "the earliest tick in which it can have been reached": a chain arrives at u in tick t, "and no chain arrives sooner"
pub record Earliest (Meet : ℕ → ℕ → ℕ → Type 0) (index s u t : ℕ) : Type 0 where
  pub arrives : Chain Meet index s u t
  pub soonest : (r : ℕ) → Chain Meet index s u r → t ≤ r
