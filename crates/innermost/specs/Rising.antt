-- What the private functions that find the highest core, by in-degrees that are counted while the order rises, promise.
use Rattle.std.specs.Prelude.{true, ◌≡◌, ◌⊎◌, ℕ, ◌+◌, ◌≤◌, ◌<◌}
use Rattle.sets.specs.Sets.{Sub}
use Rattle.cores.specs.Cores.{core}
use Rattle.cores.specs.Orders.{contains}
use Rattle.innermost.specs.Columns.{transposed}
use Rattle.innermost.specs.Degrees.{Counting}

-- What is left of a set s at order k: the core of the transposed graph, which contains the query, counted.
pub record Settled (rows : ℕ → ℕ) (s query k : ℕ) (left : ℕ) (a : ℕ → ℕ) : Type 0 where
  pub contained : contains (transposed rows s) s query k ≡ true
  pub found : left ≡ core (transposed rows s) s k
  pub counting : Counting rows left k a

-- The order and the members of the highest core of a graph that was found so far, of those above one order and up to another that contain the query.
pub record Climbed (g : ℕ → ℕ) (base query above most order s : ℕ) : Type 0 where
  pub low : above ≤ order
  pub high : order ≤ most
  pub state : ((order ≡ above) × (s ≡ 0)) ⊎ ((above < order) × (contains g base query order ≡ true) × (s ≡ core g base order))

-- Before the next order is tried: the core found is the highest so far, the cores above its order are among the badges left, and those are counted.
pub record Climbing (rows : ℕ → ℕ) (base query above stop order found left : ℕ) (a : ℕ → ℕ) : Type 0 where
  pub within : Sub left base
  pub same : (j : ℕ) → order < j → core (transposed rows left) left j ≡ core (transposed rows base) base j
  pub counting : order < stop → Counting rows left (order + 1) a
  pub climbed : Climbed (transposed rows base) base query above stop order found
