-- `compare_exchange` meets its contract: after i turns the first i words of the two parts are exchanged.
use mathlib.Core.Path.{refl}
use native.Mathlib.Omega.{arith}
use lib.ListN.{length-set}
use borrow.Author.Rules.{rules}
use Rattle.sets.specs.Sets.{union, intersection}
use Rattle.receivers.proofs.Sorting.{exchanged-more}
use Rattle.receivers.proofs.quorum.compare_exchange.Goals as goal

pub loop-i-preserved : goal.loop-i-preserved
unfolding union intersection
loop-i-preserved c =
    let l = c.loop-i in
    (search rules, simp length-set l.invariant.1, exchanged-more _ _ _ l.i (omega arith) (omega arith) l.invariant.2 refl refl)
