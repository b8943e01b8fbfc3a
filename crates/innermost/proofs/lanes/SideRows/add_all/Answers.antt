-- `lanes::SideRows::add_all` meets its contract: before turn i the rows of the first 8 * i badges of the word are added.
use mathlib.Core.Path.{◌≡◌, refl}
use Prim.Native.Nat.{◌+◌, ◌*◌}
use native.Mathlib.Omega.{arith}
use Rattle.innermost.proofs.CountedLanes.{prefix-start, prefix-more, prefix-end}
use Rattle.innermost.proofs.lanes.SideRows.add_all.Goals as goal

pub loop-i-init : goal.loop-i-init
loop-i-init c = prefix-start _ _

pub loop-i-preserved : goal.loop-i-preserved
loop-i-preserved c =
    let next : 8 * (c.loop-i.i + 1) ≡ 8 * c.loop-i.i + 8 = omega arith in
    rw next (prefix-more
    c.loop-i.invariant
    (omega arith)
    refl
    c.word.ensures
    c.word-in-loop-i.ensures
    c.word-in-loop-i-2.ensures
    c.word-in-loop-i-3.ensures
    c.word-in-loop-i-4.ensures
    c.word-in-loop-i-5.ensures
    c.word-in-loop-i-6.ensures
    c.word-in-loop-i-7.ensures
    c.add_eight-out.ensures)

pub returns : goal.returns
returns c = prefix-end c.loop-i.invariant (omega arith) refl
