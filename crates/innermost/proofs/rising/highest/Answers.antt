-- `rising::highest` meets its contract: no core contains a query that the base does not contain, and no order above the capacity has a core.
use mathlib.Core.Path.{sym, ◌∙◌}
use Prim.Native.Nat.{◌^◌, ◌<◌}
use native.Mathlib.Omega.{arith}
use Rattle.std.proofs.lemmas.Bool.Decides.{nat_tests}
use Rattle.sets.specs.Words.{from_words}
use Rattle.sets.specs.Members.{capacity, members}
use Rattle.sets.proofs.Pairs.{members-lt}
use Rattle.cores.specs.Rows.{graph}
use Rattle.innermost.specs.Columns.{transposed}
use Rattle.innermost.proofs.Climbing.{climbed-lost, climbed-all, climbed-none}
use Rattle.innermost.proofs.rising.highest.Goals as goal
use Rattle.innermost.proofs.rising.highest.Goals.{Start}

pub returns-then-not-contains : goal.returns-then-not-contains
unfolding from_words
returns-then-not-contains c = climbed-lost _ _ _ _ _ (sym c.contains.ensures ∙ c.if-not-contains.true)

wide : (c : goal.Start) → members c.args.base < 2 ^ capacity
wide c = members-lt c.args.base (omega arith) (omega arith)

pub returns-then-stop-above : goal.returns-then-stop-above
unfolding from_words
returns-then-stop-above c =
    let a = c.args in
    climbed-none (transposed (graph a.rows.now) (members a.base)) (members a.base) (members a.query) a.above a.most (wide (goal.at.returns-then-stop-above c).Start) (grind (arith, nat_tests)) c.if-stop-above.true

pub climb-requires : goal.climb-requires
climb-requires c =
    (omega arith, omega arith, sym c.contains.ensures ∙ c.if-not-contains.false)

pub returns : goal.returns
returns c =
    let a = c.args in
    climbed-all (transposed (graph a.rows.now) (members a.base)) (members a.base) (members a.query) a.above a.most (wide (goal.at.returns c).Start) (grind (arith, nat_tests)) c.climb.ensures
