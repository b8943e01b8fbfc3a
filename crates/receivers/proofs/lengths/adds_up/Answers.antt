-- `adds_up` meets its contract: the lengths so far are taken off the number of bytes.
use mathlib.Core.Path.{sym}
use native.Mathlib.Omega.{arith}
use Rattle.receivers.proofs.Sums.{taken_more, taken-short, taken-done}
use Rattle.receivers.proofs.lengths.adds_up.Goals as goal

pub returns-then-left-length : goal.returns-then-left-length
returns-then-left-length c = sym (taken-short c.loop-length.invariant (omega arith) c.if-left-length.true)

pub loop-length-preserved : goal.loop-length-preserved
loop-length-preserved c = taken_more c.loop-length.invariant (omega arith) (omega arith)

pub returns : goal.returns
returns c = taken-done c.loop-length.invariant (omega arith)
