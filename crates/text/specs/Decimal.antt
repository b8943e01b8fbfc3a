-- Numbers in decimal digits, as ASCII.
use Rattle.std.specs.Prelude.{true, false, List, [], ◌∷◌, ◌++◌, ℕ, zero, suc, ◌+◌, ◌/◌, ◌%◌, ltb}
use Prim.Native.Char.{code}

abbrev pub digit : ℕ → ℕ
digit d = code "0" + d

-- the digits of n, at most so many; n has no more than n + 1
unfoldable pub decimal_in : ℕ → ℕ → List ℕ
decimal_in zero n = []
decimal_in (suc most) n = elim (ltb n 10) [ true ↦ digit n ∷ [] | false ↦ decimal_in most (n / 10) ++ digit (n % 10) ∷ [] ]

unfoldable pub decimal : ℕ → List ℕ
decimal n = decimal_in (suc n) n
