-- `lanes::largest` meets its contract: the largest number in the lanes of a set's badges is the larger of those of its words.
use Prim.Native.Nat.{◌^◌, ◌<◌}
use native.Mathlib.Omega.{arith}
use Rattle.std.proofs.lemmas.Bool.Decides.{nat_tests}
use Rattle.sets.specs.Members.{capacity, members}
use Rattle.sets.proofs.Pairs.{members-lt}
use Rattle.innermost.proofs.CountedDegrees.{largest-none, largest-is}
use Rattle.innermost.proofs.lanes.largest.Goals as goal
use Rattle.innermost.proofs.lanes.largest.Goals.{Start}

wide : (c : goal.Start) → members c.args.s < 2 ^ capacity
wide c = members-lt c.args.s (omega arith) (omega arith)

pub returns-then-upper-eq0 : goal.returns-then-upper-eq0
returns-then-upper-eq0 c =
    largest-is c.args.d (wide (goal.at.returns-then-upper-eq0 c).Start) c.word.ensures c.word-upper.ensures c.largest-low.ensures (largest-none _ c.if-upper-eq0.true) (omega arith)

pub returns : goal.returns
returns c =
    largest-is c.args.d (wide (goal.at.returns c).Start) c.word.ensures c.word-upper.ensures c.largest-low.ensures c.largest.ensures (grind (arith, nat_tests))
