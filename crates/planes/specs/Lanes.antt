-- Numbers in the lanes of words. A list of words, the planes, holds a number in each lane v: bit v of each word, the lowest bit first.
-- How many planes the program has is said by its type, and named by `plane_count`; no other definition here has a number of planes.
use Rattle.std.specs.Prelude.{◌≡◌, List, [], ◌∷◌, ℕ, ◌+◌, ◌-◌, ◌*◌, ◌%◌, ◌^◌, ◌≤◌, ◌<◌, length}
use Rattle.sets.specs.Sets.{bit, In}
use Rattle.sets.specs.Words.{word_bits}
use Rattle.planes.specs.declared.Planes.{Planes}

-- the number in lane v
unfoldable pub lane : List ℕ → ℕ → ℕ
lane [] v = 0
lane (p ∷ ps) v = bit p v + 2 * lane ps v

-- the planes of the program, but for the last; and all of them
abbrev pub lower_planes : Planes → List ℕ
lower_planes p = p.p0 ∷ p.p1 ∷ p.p2 ∷ p.p3 ∷ p.p4 ∷ p.p5 ∷ p.p6 ∷ []

abbrev pub planes_of : Planes → List ℕ
planes_of p = p.p0 ∷ p.p1 ∷ p.p2 ∷ p.p3 ∷ p.p4 ∷ p.p5 ∷ p.p6 ∷ p.p7 ∷ []

-- how many they are; a lane has room for the numbers below twice `half`, and the last plane has the lanes of `half` or more
abbrev pub plane_count : ℕ
plane_count = 8

abbrev pub half : ℕ
half = 2 ^ (plane_count - 1)

-- in each lane, the sum of three bits is that of two bits, of which one counts twice
pub record FullAdder (a b c high low : ℕ) : Type 0 where
  pub sum : (v : ℕ) → bit a v + bit b v + bit c v ≡ 2 * bit high v + bit low v

-- x v is added in each lane v; a sum for which there is no room loses its highest digits
pub record Plus (x : ℕ → ℕ) (ps qs : List ℕ) : Type 0 where
  pub lanes : (v : ℕ) → lane qs v ≡ (lane ps v + x v) % 2 ^ length ps

-- x is in every lane of a word, without the digits for which there is no room
pub record Constant (x : ℕ) (ps : List ℕ) : Type 0 where
  pub lanes : (v : ℕ) → v < word_bits → lane ps v ≡ x % 2 ^ length ps

-- the numbers of the two add up to the largest number that there is room for
pub record Complement (ps qs : List ℕ) : Type 0 where
  pub sum : (v : ℕ) → v < word_bits → lane ps v + lane qs v + 1 ≡ 2 ^ length ps

-- m is the largest number in the lanes of a word's bits, 0 where there is none
pub record LargestLane (s : ℕ) (ps : List ℕ) (m : ℕ) : Type 0 where
  pub each : (v : ℕ) → In s v → lane ps v ≤ m
  pub attained : 0 < s → (v : ℕ) × In s v × (lane ps v ≡ m)
  pub none : s ≡ 0 → m ≡ 0
