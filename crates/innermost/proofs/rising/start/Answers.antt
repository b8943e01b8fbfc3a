-- `rising::start` meets its contract: the base is the core of every order up to its least in-degree, which the largest number in its lanes gives.
use mathlib.Core.Path.{◌≡◌}
use Prim.Native.Nat.{ℕ, ◌+◌, ◌<◌}
use native.Mathlib.Omega.{arith}
use borrow.Author.Tests.{ltb-true}
use Rattle.std.proofs.lemmas.Bool.Decides.{nat_tests}
use Rattle.sets.specs.Words.{from_words}
use Rattle.sets.specs.Members.{members}
use Rattle.sets.proofs.Bools.{and_left}
use Rattle.cores.specs.Rows.{graph}
use Rattle.innermost.specs.Degrees.{number_of, Counting}
use Rattle.innermost.specs.Rising.{Climbing}
use Rattle.innermost.proofs.Climbing.{climbing-start, climbing-jump, lanes_small, lanes-least}
use Rattle.innermost.proofs.rising.start.Goals as goal
use Rattle.innermost.proofs.rising.start.Goals.{After-min-order, After-count-degrees}

-- its in-degrees are counted at the order after the lowest
counted : (c : goal.After-count-degrees) → let a = c.args in Counting (graph a.rows.now) (members a.base) (a.above + 1) (number_of c.count-degrees.result)
counted c =
    let e : c.from.result + 1 ≡ c.args.above + 1 = omega arith in
    rw e at c.count-degrees.ensures

-- no core is known yet
lowest : (c : goal.After-count-degrees) → let a = c.args in Climbing (graph a.rows.now) (members a.base) (members a.query) a.above a.stop a.above 0 (members a.base) (number_of c.count-degrees.result)
lowest c = climbing-start _ (omega arith) (counted c)

pub returns-then-stop-above-lt-MANY : goal.returns-then-stop-above-lt-MANY
unfolding from_words
returns-then-stop-above-lt-MANY c = lowest (goal.at.returns-then-stop-above-lt-MANY c).After-count-degrees

pub overflow_sub-least : goal.overflow_sub-least
overflow_sub-least c =
    omega (arith, lanes_small (counted (goal.at.overflow_sub-least c).After-count-degrees) c.largest.ensures (ltb-true _ _ (and_left _ _ c.requires.2)))

pub returns-then-least-from : goal.returns-then-least-from
unfolding from_words
returns-then-least-from c = lowest (goal.at.returns-then-least-from c).After-count-degrees

-- the base is the core of the order that its least in-degree gives; beyond the last order nothing has to be counted
jump : (c : goal.After-min-order) {a : ℕ → ℕ} →
    let s = c.args in
    Counting (graph s.rows.now) (members s.base) (s.above + 1) (number_of c.count-degrees.result)
    → (c.min-order.result < s.stop → Counting (graph s.rows.now) (members s.base) (c.min-order.result + 1) a)
    → Climbing (graph s.rows.now) (members s.base) (members s.query) s.above s.stop c.min-order.result (members s.base) (members s.base) a
jump c n f =
    let least = lanes-least n c.largest.ensures c.min-order.result (grind (arith, nat_tests)) in
    climbing-jump least (grind (arith, nat_tests)) (grind (arith, nat_tests)) c.requires.2 f

pub returns-then-order-stop : goal.returns-then-order-stop
returns-then-order-stop c = jump (goal.at.returns-then-order-stop c).After-min-order (counted (goal.at.returns-then-order-stop c).After-count-degrees) (λ l. omega arith)

pub returns : goal.returns
returns c =
    let k : c.from-5.result + 1 ≡ c.min-order.result + 1 = omega arith in
    jump (goal.at.returns c).After-min-order (counted (goal.at.returns c).After-count-degrees) (λ l. rw k at c.count.ensures)
