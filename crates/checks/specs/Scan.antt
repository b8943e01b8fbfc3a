-- The search for a pair that breaks a day, in one tick: the rows known are always a tick's, and become those of the tick at hand, first in their upper words.
-- (Cited by private functions alone.)
use Rattle.std.specs.Prelude.{◌≡◌, Bool, true, false, List, ℕ, ◌^◌, ◌≤◌, ◌<◌, length}
use Rattle.sets.specs.Sets.{bit}
use Rattle.sets.specs.Words.{word_bits, set_at}
use Rattle.sets.specs.Members.{row_words}
use Rattle.days.specs.Days.{IsTick}

-- two sets have the same badges in the words after the lowest
pub record SameUpper (s t : ℕ) : Type 0 where
  pub at : (v : ℕ) → word_bits ≤ v → bit s v ≡ bit t v

-- the rows known when the upper words of the first u rows are passed
pub record Passed (n u : ℕ) (tick known : List ℕ) : Type 0 where
  pub size : length known ≡ row_words
  pub below : (w : ℕ) → w < n → set_at tick w < 2 ^ n
  pub rows : IsTick n (set_at known)
  pub upper : (w : ℕ) → w < u → SameUpper (set_at known w) (set_at tick w)

-- they are passed, or a pair breaks the day in one of them
pub record PassedIf (good : Bool) (n u : ℕ) (tick known : List ℕ) : Type 0 where
  pub passed : good ≡ true → Passed n u tick known
  pub broken : good ≡ false → IsTick n (set_at tick) → ⊥
