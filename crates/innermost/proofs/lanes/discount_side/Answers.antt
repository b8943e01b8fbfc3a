-- `lanes::discount_side` meets its contract: the rows of a set are those of the badges of its words.
use mathlib.Core.Path.{refl}
use Prim.Native.Nat.{◌^◌, ◌<◌}
use native.Mathlib.Omega.{arith}
use Rattle.sets.specs.Words.{Words}
use Rattle.sets.specs.Members.{capacity, members}
use Rattle.sets.proofs.Pairs.{members-lt}
use Rattle.innermost.proofs.CountedDegrees.{words-none, words_more, words-done}
use Rattle.innermost.proofs.lanes.discount_side.Goals as goal
use Rattle.innermost.proofs.lanes.discount_side.Goals.{Start}

wide : (c : goal.Start) → members c.args.s < 2 ^ capacity
wide c = members-lt c.args.s (omega arith) (omega arith)

pub returns : goal.returns
returns c =
    let fit : Words c.args.rows.now = record { at = λ i l. c.fits-rows i } in
    let one = words_more (wide (goal.at.returns c).Start) fit c.told-rows c.requires (words-none (wide (goal.at.returns c).Start) _) (omega arith) refl c.word.ensures c.discount.ensures in
    let two = words_more (wide (goal.at.returns c).Start) fit c.told-rows c.requires one (omega arith) refl c.word-2.ensures c.discount-2.ensures in
    words-done (wide (goal.at.returns c).Start) two refl
