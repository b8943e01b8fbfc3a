-- What the private functions that count in-degrees in the lanes of planes promise, for the rows of the badges of one word and one word of each row.
use Rattle.std.specs.Prelude.{◌≡◌, List, ℕ, ◌+◌, ◌*◌, ◌^◌, ◌≤◌, ◌<◌, length, get_or}
use Rattle.sets.specs.Sets.{bit, size}
use Rattle.sets.specs.Words.{word_bits, set_words}
use Rattle.planes.specs.Lanes.{lane, half}
use Rattle.innermost.specs.Columns.{in_degree}

-- the word at a place, its side, of the row of the badge that comes u after another, in the words of rows
abbrev pub row_word : List ℕ → ℕ → ℕ → ℕ → ℕ
row_word rows from side u = get_or rows ((from + u) * set_words + side) 0

-- one row of the members of s, and the other members: an empty row where there is none
pub record TakesRow (rows : ℕ → ℕ) (s row rest : ℕ) : Type 0 where
  pub falls : 0 < s → size rest < size s
  pub never_rises : size rest ≤ size s
  pub each : (v : ℕ) → in_degree rows s v ≡ bit row v + in_degree rows rest v

-- x v is added in each lane v in which there is room for the sum
pub record AddsTo (x : ℕ → ℕ) (ps qs : List ℕ) : Type 0 where
  pub sum : (v : ℕ) → lane ps v + x v < 2 ^ length ps → lane qs v ≡ lane ps v + x v

-- the same for the badges of a side: lane v is that of badge v of the side's word of a set
pub record AddsSide (x : ℕ → ℕ) (side : ℕ) (ps qs : List ℕ) : Type 0 where
  pub each : (v : ℕ) → v < word_bits → lane ps v + x (side * word_bits + v) < 2 * half → lane qs v ≡ lane ps v + x (side * word_bits + v)

-- the rows of some members of s are added, those of the others not yet
pub record AddsSome (rows : ℕ → ℕ) (s unseen : ℕ) (ps qs : List ℕ) : Type 0 where
  pub falls : 0 < s → size unseen < size s
  pub each : (v : ℕ) → lane ps v + in_degree rows s v < 2 * half → lane qs v + in_degree rows unseen v ≡ lane ps v + in_degree rows s v

-- In each lane of a side, the order k, less the in-degree in s, above the largest number that is below half: half or more exactly where the in-degree is
-- below k.
pub record CountingSide (rows : ℕ → ℕ) (s k side : ℕ) (ps : List ℕ) : Type 0 where
  pub each : (v : ℕ) → v < word_bits → lane ps v + in_degree rows s (side * word_bits + v) + 1 ≡ k + half
