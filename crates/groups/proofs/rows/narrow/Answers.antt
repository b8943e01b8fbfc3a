-- `narrow` meets its contract: with both sides narrowed, or the lower one where nobody is beyond it, the rows are those of the longer span.
use mathlib.Core.Path.{refl}
use native.Mathlib.Omega.{arith}
use Rattle.groups.proofs.NarrowedSides.{step-side, side-size, narrows-both, narrows-lower}
use Rattle.groups.proofs.rows.narrow.Goals as goal

pub narrow_side-requires : goal.narrow_side-requires
narrow_side-requires c = step-side c.requires (omega arith)

pub narrow_side-requires-then-n-gt-WORD_BITS : goal.narrow_side-requires-then-n-gt-WORD_BITS
narrow_side-requires-then-n-gt-WORD_BITS c = side-size (step-side c.requires (omega arith)) c.narrow_side.ensures.size

pub returns-then-n-gt-WORD_BITS : goal.returns-then-n-gt-WORD_BITS
returns-then-n-gt-WORD_BITS c = narrows-both refl c.narrow_side.ensures c.narrow_side-then-n-gt-WORD_BITS.ensures

pub returns-else-n-gt-WORD_BITS : goal.returns-else-n-gt-WORD_BITS
returns-else-n-gt-WORD_BITS c = narrows-lower refl (omega (arith, c.if-n-gt-WORD_BITS.false)) c.narrow_side.ensures
