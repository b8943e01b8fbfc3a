-- `TickSet::first_in` meets its contract.
use native.Mathlib.Omega.{arith}
use Rattle.logs.proofs.TickSets.{first-high, first-low, first-both}
use Rattle.logs.proofs.ticks.TickSet.first_in.Goals as goal

pub returns-then-from-ge-WORD_BITS : goal.returns-then-from-ge-WORD_BITS
returns-then-from-ge-WORD_BITS c = first-high c.args.self _ _ c.if-from-ge-WORD_BITS.true c.first_bit.ensures

pub returns-then-low-lt-WORD_BITS : goal.returns-then-low-lt-WORD_BITS
returns-then-low-lt-WORD_BITS c = first-low c.args.self (omega arith) c.first_bit-low.ensures

pub returns : goal.returns
returns c = first-both c.args.self _ c.if-low-lt-WORD_BITS.false c.first_bit-low.ensures c.first_bit-2.ensures
