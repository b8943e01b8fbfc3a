-- `lanes::count_side` meets its contract: before a turn the rows of the badges of the words before i are added, and the complement of the sums counts.
use mathlib.Core.Path.{refl}
use Prim.Native.Nat.{◌^◌, ◌<◌}
use native.Mathlib.Omega.{arith}
use Rattle.sets.specs.Words.{Words}
use Rattle.sets.specs.Members.{capacity, members}
use Rattle.sets.proofs.Pairs.{members-lt}
use Rattle.innermost.proofs.CountedDegrees.{words-none, words_more, words-done, side-counted}
use Rattle.innermost.proofs.lanes.count_side.Goals as goal
use Rattle.innermost.proofs.lanes.count_side.Goals.{Start}

wide : (c : goal.Start) → members c.args.s < 2 ^ capacity
wide c = members-lt c.args.s (omega arith) (omega arith)

pub loop-i-init : goal.loop-i-init
loop-i-init c = words-none (wide (goal.at.loop-i-init c).Start) _

pub loop-i-preserved : goal.loop-i-preserved
loop-i-preserved c =
    let fit : Words c.args.rows.now = record { at = λ i l. c.fits-rows i } in
    words_more (wide (goal.at.loop-i-preserved c).Start) fit c.told-rows c.requires.2 c.loop-i.invariant c.loop-i-test.true refl c.word.ensures c.add-sums.ensures

pub returns : goal.returns
returns c =
    side-counted (wide (goal.at.returns c).Start) (omega arith) (omega arith) refl refl c.constant-sums.ensures (words-done (wide (goal.at.returns c).Start) c.loop-i.invariant (omega arith)) c.complement.ensures
