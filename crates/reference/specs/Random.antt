-- A fixed sequence of random numbers: Marsaglia's xorshift of 64 bits.
use Rattle.std.specs.Prelude.{ℕ, zero, suc, ◌*◌, ◌/◌, ◌%◌, ◌^◌, bit_xor}

-- a number and the same number with its bits moved up or down, in 64 bits
unfoldable pub mix_up : ℕ → ℕ → ℕ
mix_up bits x = bit_xor x (x * 2 ^ bits % 2 ^ 64)

unfoldable pub mix_down : ℕ → ℕ → ℕ
mix_down bits x = bit_xor x (x / 2 ^ bits)

-- the number after x
unfoldable pub xorshift : ℕ → ℕ
xorshift x = mix_up 17 (mix_down 7 (mix_up 13 x))

-- a number of the sequence, from its bits 16 and up, brought below a bound; 0 where the bound is 0
unfoldable pub below : ℕ → ℕ → ℕ
below zero x = 0
below (suc b) x = x / 2 ^ 16 % suc b
