-- `copy` meets its contract: after i turns the first i words are copied.
use mathlib.Core.Path.{◌≡◌}
use native.Mathlib.Omega.{arith}
use lib.ListN.{length-set}
use borrow.Author.Rules.{rules}
use Rattle.receivers.proofs.Sorting.{copied_none, copied_more}
use Rattle.receivers.proofs.quorum.copy.Goals as goal

pub loop-i-init : goal.loop-i-init
loop-i-init c = (search rules, search rules, copied_none _ _ _)

pub loop-i-preserved : goal.loop-i-preserved
loop-i-preserved c =
    let l = c.loop-i in
    (search rules, simp length-set l.invariant.1, copied_more _ _ _ l.i (omega arith) l.invariant.2)

pub returns : goal.returns
returns c =
    let l = c.loop-i in
    let e : l.i ≡ c.before.before.args.size = omega arith in
    rw e at l.invariant.2
