-- `full_word` meets its contract: either way the word is one less than a power of two.
use mathlib.Core.Path.{◌≡◌, refl}
use Prim.Native.Nat.{ℕ, suc, ◌^◌, min}
use native.Mathlib.Omega.{arith}
use lib.Pow.{pow_pos}
use Rattle.sets.specs.Sets.{full}
use Rattle.sets.specs.Words.{word_bits}
use Rattle.sets.proofs.Bits.{one_shl}
use Rattle.sets.proofs.Sets.{full-suc}
use Rattle.sets.proofs.full_word.Goals as goal

-- a word is the set of the first m badges when it is one less than 2 ^ m
is-full : (n m x : ℕ) → min n word_bits ≡ m → suc x ≡ 2 ^ m → x ≡ full (min n word_bits)
is-full n m x e f = rw e (omega (arith, full-suc m))

pub returns-then-n-ge-WORD_BITS : goal.returns-then-n-ge-WORD_BITS
returns-then-n-ge-WORD_BITS c = is-full c.args.n 64 _ (omega arith) refl

pub overflow_sub-result : goal.overflow_sub-result
overflow_sub-result c = omega (arith, one_shl c.args.n c.if-n-ge-WORD_BITS.false, pow_pos c.args.n)

pub returns : goal.returns
returns c = let n = c.args.n in is-full n n _ (omega arith) (omega (arith, one_shl n c.if-n-ge-WORD_BITS.false, pow_pos n))
