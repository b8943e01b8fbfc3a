-- Counts of cases.
use Rattle.std.specs.Prelude.{ℕ, ◌+◌, ◌%◌, ◌^◌, Bool, true, false}

-- the sum of two counts of 64 bits, which wraps
abbrev pub sum : ℕ → ℕ → ℕ
sum a b = (a + b) % 2 ^ 64

-- how many wrong cases one case is
abbrev pub misses : Bool → ℕ
misses true = 0
misses false = 1
