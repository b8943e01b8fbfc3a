-- `rising::climb` meets its contract: before a turn the core found is the highest of the orders tried, and what is left contains the query and is counted
-- at the next order.
use mathlib.Core.Path.{◌≡◌, refl, sym, ◌∙◌}
use mathlib.Core.Logic.{inl, inr}
use Prim.Native.Nat.{◌+◌}
use native.Mathlib.Omega.{arith}
use Rattle.innermost.proofs.Climbing.{climbing-test, climbing-more, settled-contains, climbing-end}
use Rattle.innermost.proofs.rising.climb.Goals as goal
use Rattle.innermost.proofs.rising.climb.Goals.{After-from}

pub loop-order-init : goal.loop-order-init
loop-order-init c = record { last = refl; climbing = c.start-begin.ensures; contained = c.requires.2 }

-- the order at hand
at-order : (c : goal.After-from) → c.from.result + 1 ≡ c.loop-order.order + 1
at-order c = omega arith

pub settle-requires : goal.settle-requires
settle-requires c =
    let i = c.loop-order.invariant in record {
      counted = (omega arith, omega arith, rw (at-order (goal.at.settle-requires c).After-from) (i.climbing.counting c.loop-order-test.true));
      contained = i.contained;
    }

pub loop-order-preserved : goal.loop-order-preserved
loop-order-preserved c =
    let next = c.in-Some.ensures in record {
      last = refl;
      climbing = climbing-more c.loop-order.invariant.climbing _ (at-order (goal.at.loop-order-preserved c).After-from) next c.loop-order-test.true (omega arith) c.raise.ensures;
      contained = settled-contains next;
    }

pub returns-after-loop-order : goal.returns-after-loop-order
returns-after-loop-order c =
    let i = c.loop-order.invariant in
    rw i.last (climbing-end i.climbing (inr c.loop-order-test.false))

pub returns-in_default : goal.returns-in_default
returns-in_default c =
    let i = c.loop-order.invariant in
    let none = c.in_default.ensures in
    rw i.last (climbing-end i.climbing (inl (sym (climbing-test i.climbing _ (at-order (goal.at.returns-in_default c).After-from)) ∙ none)))
