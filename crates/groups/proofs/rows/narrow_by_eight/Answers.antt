-- `narrow_by_eight` meets its contract: after i turns the first 8 * i rows are narrowed.
use mathlib.Core.Path.{refl}
use native.Mathlib.Omega.{arith}
use borrow.Author.Rules.{rules}
use Rattle.groups.proofs.NarrowedSides.{side-none, side-more, side-of}
use Rattle.groups.proofs.rows.narrow_by_eight.Goals as goal

pub loop-i-init : goal.loop-i-init
loop-i-init c = (search rules, side-none)

pub narrow_some-requires : goal.narrow_some-requires
narrow_some-requires c = side-of c.requires c.loop-i.invariant.1 (omega arith)

pub loop-i-preserved : goal.loop-i-preserved
loop-i-preserved c = (search rules, side-more c.loop-i.invariant.1 c.narrow_some.ensures refl (omega arith) (omega arith) (omega arith))

pub shape_of-rows : goal.shape_of-rows
shape_of-rows c = c.loop-i.invariant.1.size

pub returns : goal.returns
returns c =
    let l = c.loop-i in
    side-more l.invariant.1 side-none refl (omega (arith, c.loop-i-test.false)) (omega arith) (omega arith)
