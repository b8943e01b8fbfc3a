-- `adds_up` meets its contract: the lengths so far are taken off the number of bytes.
use Rattle.receivers.proofs.Sums.{TakenOff}
use Rattle.receivers.proofs.lengths.adds_up.Given as goal

abbrev pub invariant-loop-length : goal.invariant-loop-length
invariant-loop-length l = TakenOff l.lengths l.bytes l.left l.length-index
