-- first_bit meets its contract: the bits below a number are taken away, and the zeros that trail are counted.
use mathlib.Core.Path.{◌≡◌}
use Prim.Native.Nat.{◌*◌, ◌-◌, ◌%◌, ◌^◌}
use native.Mathlib.Nat.{lt_of_le_of_lt}
use native.Mathlib.Omega.{arith}
use lib.Dec.{lit<}
use lib.Bits.{and_le_l}
use lib.Count.{trailing_le}
use lib.Pow.{pow_pos}
use Rattle.sets.specs.Sets.{difference, full}
use Rattle.sets.specs.Words.{word_bits}
use Rattle.sets.proofs.Bits.{one_shl}
use Rattle.sets.proofs.Sets.{full-suc}
use Rattle.sets.proofs.Smallest.{smallest-trailing}
use Rattle.logs.proofs.TickSets.{first_member}
use Rattle.logs.proofs.ticks.first_bit.Goals as goal

pub overflow_sub-result : goal.overflow_sub-result
overflow_sub-result c = omega (arith, one_shl c.args.from c.requires, pow_pos c.args.from)

pub overflow_sub-result-2 : goal.overflow_sub-result-2
overflow_sub-result-2 c = and_le_l _ _

pub overflow_cast-result : goal.overflow_cast-result
overflow_cast-result c = record { fits = lt_of_le_of_lt (trailing_le word_bits _) (lit< tt) }

pub returns : goal.returns
unfolding difference
returns c =
    let from = c.args.from in
    let e : 1 * 2 ^ from % 2 ^ word_bits - 1 ≡ full from = omega (arith, one_shl from c.requires, full-suc from) in
    rw (e, ← smallest-trailing) (first_member word_bits c.args.word from (omega arith))
