-- `lanes::discount` meets its contract: each side is worked on, and no badge is on the upper side where nobody is left in the upper word.
use mathlib.Core.Path.{sym, ◌∙◌}
use Prim.Native.Nat.{◌^◌, ◌<◌}
use native.Mathlib.Omega.{arith}
use Rattle.sets.specs.Members.{capacity, members}
use Rattle.sets.proofs.Pairs.{members-lt}
use Rattle.innermost.proofs.CountedDegrees.{sides-raised}
use Rattle.innermost.proofs.lanes.discount.Goals as goal
use Rattle.innermost.proofs.lanes.discount.Goals.{Start}

wide : (c : goal.Start) → members c.args.left < 2 ^ capacity
wide c = members-lt c.args.left (omega arith) (omega arith)

pub returns-then-word-eq0 : goal.returns-then-word-eq0
returns-then-word-eq0 c =
    sides-raised (wide (goal.at.returns-then-word-eq0 c).Start) _ _ c.discount_side-low.ensures (λ f. absurd (f (sym c.word.ensures ∙ c.if-word-eq0.true)))

pub returns : goal.returns
returns c =
    sides-raised (wide (goal.at.returns c).Start) _ _ c.discount_side-low.ensures (λ f. c.discount_side.ensures)
