-- `lanes::count` meets its contract: each side counts, and no badge is on the upper side where the set's upper word is empty.
use mathlib.Core.Path.{sym, ◌∙◌}
use Prim.Native.Nat.{◌^◌, ◌<◌}
use native.Mathlib.Omega.{arith}
use Rattle.sets.specs.Members.{capacity, members}
use Rattle.sets.proofs.Pairs.{members-lt}
use Rattle.innermost.proofs.CountedDegrees.{sides-counted}
use Rattle.innermost.proofs.lanes.count.Goals as goal
use Rattle.innermost.proofs.lanes.count.Goals.{Start}

pub count_side-low-requires : goal.count_side-low-requires
count_side-low-requires c = let p = c.requires in (p.0, p.1, omega arith)

wide : (c : goal.Start) → members c.args.s < 2 ^ capacity
wide c = members-lt c.args.s (omega arith) (omega arith)

pub returns-then-word-eq0 : goal.returns-then-word-eq0
returns-then-word-eq0 c =
    sides-counted (wide (goal.at.returns-then-word-eq0 c).Start) _ c.count_side-low.ensures (λ f. absurd (f (sym c.word.ensures ∙ c.if-word-eq0.true)))

pub count_side-requires : goal.count_side-requires
count_side-requires c = let p = c.requires in (p.0, p.1, omega arith)

pub returns : goal.returns
returns c =
    sides-counted (wide (goal.at.returns c).Start) _ c.count_side-low.ensures (λ f. c.count_side.ensures)
