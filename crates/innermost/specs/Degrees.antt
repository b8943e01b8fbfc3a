-- The numbers that stand for the in-degrees of all badges, each in a lane of the planes of its word, and what the functions over them promise.
use Rattle.std.specs.Prelude.{◌≡◌, ℕ, zero, suc, ◌+◌, ◌*◌, ◌/◌, ◌%◌, ◌≤◌, ◌<◌}
use Rattle.sets.specs.Sets.{In}
use Rattle.sets.specs.Words.{word_bits}
use Rattle.sets.specs.Members.{capacity}
use Rattle.planes.specs.declared.Planes.{Planes}
use Rattle.planes.specs.Lanes.{lane, planes_of, half}
use Rattle.innermost.specs.declared.lanes.Degrees.{Degrees}
use Rattle.innermost.specs.Columns.{in_degree}

-- the planes of the badges of a set's word, by its place, and the number that stands for badge v in them
abbrev pub side_of : Degrees → ℕ → Planes
side_of d zero = d.low
side_of d (suc i) = d.high

unfoldable pub number_of : Degrees → ℕ → ℕ
number_of d v = lane (planes_of (side_of d (v / word_bits))) (v % word_bits)

-- For each member of s, the order k, less the in-degree in s, above the largest number that is below half: half or more exactly where the in-degree is
-- below k.
pub record Counting (rows : ℕ → ℕ) (s k : ℕ) (a : ℕ → ℕ) : Type 0 where
  pub each : (v : ℕ) → In s v → a v + in_degree rows s v + 1 ≡ k + half

-- x v is added to the number of each member v of s for which there is room for the sum
pub record Raised (s : ℕ) (x a b : ℕ → ℕ) : Type 0 where
  pub sum : (v : ℕ) → In s v → a v + x v < 2 * half → b v ≡ a v + x v

-- s has the badges whose number is m or more
pub record Reached (m : ℕ) (a : ℕ → ℕ) (s : ℕ) : Type 0 where
  pub of : (v : ℕ) → v < capacity → In s v → m ≤ a v
  pub has : (v : ℕ) → v < capacity → m ≤ a v → In s v

-- m is the largest number of a member of s
pub record LargestOf (s : ℕ) (a : ℕ → ℕ) (m : ℕ) : Type 0 where
  pub each : (v : ℕ) → In s v → a v ≤ m
  pub attained : 0 < s → (v : ℕ) × In s v × (a v ≡ m)
