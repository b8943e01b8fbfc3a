-- `insert` meets its contract: after j turns the part is exchanged with the first j.
use mathlib.Core.Path.{◌≡◌}
use native.Mathlib.Omega.{arith}
use borrow.Author.Rules.{rules}
use Rattle.receivers.proofs.Sorting.{inserting-none, inserting-more, inserting-done}
use Rattle.receivers.proofs.quorum.insert.Goals as goal
use Rattle.receivers.proofs.quorum.insert.Goals.{In-loop-j}

pub loop-j-init : goal.loop-j-init
loop-j-init c = (search rules, search rules, λ lent s. inserting-none _ _ s)

pub loop-j-preserved : goal.loop-j-preserved
loop-j-preserved c =
    (search rules, search rules, λ lent s. inserting-more _ _ c.loop-j-test.true c.compare_exchange.ensures (c.loop-j.invariant.2 lent s))

pub returns : goal.returns
returns c =
    let l = c.loop-j in
    let e : l.j ≡ c.before.before.before.args.k = omega arith in
    λ lent s. inserting-done _ _ (rw e at (l.invariant.2 lent s))
