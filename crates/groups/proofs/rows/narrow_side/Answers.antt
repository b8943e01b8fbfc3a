-- `narrow_side` meets its contract: eight rows in a turn, and then the others, one in a turn.
use mathlib.Core.Path.{refl, ◌∙◌}
use native.Mathlib.Nat.{le_refl}
use native.Mathlib.Omega.{arith}
use borrow.Author.Rules.{rules}
use Rattle.groups.proofs.NarrowedSides.{side-none, side-more, side-of}
use Rattle.groups.proofs.rows.narrow_side.Goals as goal

pub loop-u-init : goal.loop-u-init
loop-u-init c = (search rules, search rules, side-none)

pub narrow_row-requires : goal.narrow_row-requires
narrow_row-requires c =
    let e = c.narrow_by_eight.ensures in
    side-of (side-of c.requires e (le_refl _)) c.loop-u.invariant.2 (omega (arith, c.loop-u-test.true))

pub loop-u-preserved : goal.loop-u-preserved
loop-u-preserved c =
    let v = c.loop-u.invariant in
    (search rules, search rules, side-more v.2 c.narrow_row.ensures refl refl (omega (arith, v.0)) (omega arith))

pub shape_of-rows : goal.shape_of-rows
shape_of-rows c = c.loop-u.invariant.2.size ∙ c.narrow_by_eight.ensures.size

pub returns : goal.returns
returns c =
    let v = c.loop-u.invariant in
    side-more c.narrow_by_eight.ensures v.2 refl (omega (arith, c.loop-u-test.false, v.1)) (omega arith) v.0
