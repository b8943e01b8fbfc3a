-- `narrow_some` meets its contract: before the turn of i the rows before it are narrowed.
use mathlib.Core.Path.{refl}
use native.Mathlib.Omega.{arith}
use borrow.Author.Rules.{rules}
use Rattle.groups.proofs.NarrowedSides.{side-none, side-more, side-of}
use Rattle.groups.proofs.rows.narrow_some.Goals as goal

pub loop-i-init : goal.loop-i-init
loop-i-init g c = (search rules, omega arith, side-none)

pub narrow_row-requires : goal.narrow_row-requires
narrow_row-requires g c = side-of c.requires c.loop-i.invariant.2 (omega (arith, c.loop-i-test.true))

pub loop-i-preserved : goal.loop-i-preserved
loop-i-preserved g c =
    let v = c.loop-i.invariant in
    (search rules, search rules, side-more v.2 c.narrow_row.ensures refl refl (omega (arith, v.0)) (omega arith))

pub shape_of-rows : goal.shape_of-rows
shape_of-rows g c = c.loop-i.invariant.2.size

pub returns : goal.returns
returns g c =
    let v = c.loop-i.invariant in
    side-more v.2 side-none refl (omega (arith, c.loop-i-test.false, v.1)) v.0 (omega arith)
