-- Numbers in bytes, lowest first, as std says them and as these crates do.
use Rattle.std.proofs.Common.{◌≡◌, refl, sym, ap, ap₂, ◌∙◌, ℕ, zero, suc, ◌*◌, ◌/◌, ◌%◌, ◌^◌, [], ◌∷◌, List, w32, arith}
use Rattle.std.proofs.Math.Nat.{div-div-eq-div-mul}
use Rattle.std.specs.Int.{Width, byte_len, byte_at, bytes_low_first, from_le_bytes, to_le_bytes}
use Rattle.sets.specs.Bytes.{little_endian, from_little_endian}

-- the number of four bytes
pub from-le-bytes : (a b c d : ℕ) → from_le_bytes w32 (a ∷ b ∷ c ∷ d ∷ []) ≡ from_little_endian (a ∷ b ∷ c ∷ d ∷ [])
unfolding from_little_endian
from-le-bytes a b c d = omega arith

-- byte i of a number, and k bytes of it from byte i on
byte-is : (i n : ℕ) → byte_at i n ≡ n / 256 ^ i % 256
byte-is zero n = omega arith
byte-is (suc i) n = refl

bytes-are : (i k n : ℕ) → bytes_low_first i k n ≡ little_endian k (n / 256 ^ i)
unfolding little_endian
bytes-are i zero n = refl
bytes-are i (suc k) n =
    let next : 256 ^ suc i ≡ 256 ^ i * 256 = omega arith in
    ap₂ (λ (b : ℕ) (bs : List ℕ). b ∷ bs) (byte-is i n) (bytes-are (suc i) k n ∙ ap (little_endian k) (ap (λ (m : ℕ). n / m) next ∙ sym (div-div-eq-div-mul n (256 ^ i) 256)))

-- all bytes of a number of a width
pub to-le-bytes : (w : Width) (n : ℕ) → to_le_bytes w n ≡ little_endian (byte_len w) n
to-le-bytes w n = let e : n / 256 ^ 0 ≡ n = omega arith in bytes-are 0 (byte_len w) n ∙ ap (little_endian (byte_len w)) e
