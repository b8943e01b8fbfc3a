-- `walk_ends` meets its contract: after i turns the first i ends are found, and those of the definition from tick t on are the others.
use mathlib.Core.Path.{refl}
use native.Mathlib.Omega.{arith}
use Rattle.cuts.proofs.Steps.{end-in, walked_none, walked_more, walked_all}
use Rattle.cuts.proofs.walk_ends.Goals as goal

pub loop-i-init : goal.loop-i-init
loop-i-init c = (omega arith, walked_none _ _ _ _ c.requires.0 c.requires.1 (omega arith))

pub overflow_cast-ends : goal.overflow_cast-ends
overflow_cast-ends c = let i = end-in _ _ _ _ (omega arith) c.best_end-end.ensures in omega arith

pub overflow_add-t : goal.overflow_add-t
overflow_add-t c = let i = end-in _ _ _ _ (omega arith) c.best_end-end.ensures in omega arith

pub loop-i-preserved : goal.loop-i-preserved
loop-i-preserved c =
    (omega arith, walked_more c.loop-i.invariant.1 (omega arith) _ _ c.requires.3 (omega arith) refl c.best_end-end.ensures)

pub returns : goal.returns
returns c = walked_all c.loop-i.invariant.1 (omega arith) (omega arith) (omega arith)
