-- `judge_from` meets its contract: no bytes are cut short, and at each turn the verdict on the log is the verdict on the rest from the state reached.
use Prim.Native.Nat.{◌-◌}
use lib.ListN.{length}
use Rattle.records.proofs.Verdicts.{Reached}
use Rattle.records.proofs.judging.judge_from.Given as goal

abbrev pub invariant-loop-record : goal.invariant-loop-record
invariant-loop-record l = Reached l.buffer l.offset l.state

abbrev pub decreases-loop-record : goal.decreases-loop-record
decreases-loop-record l = length l.buffer - l.state.offset
