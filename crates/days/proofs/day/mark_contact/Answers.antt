-- mark_contact meets its contract: before tick t of the loop the contact's ticks before t are marked.
use native.Mathlib.Omega.{arith}
use lib.ListN.{length}
use Rattle.days.proofs.Marking.{marking-none, marking-more, marking-done, pair_fits}
use Rattle.days.proofs.day.mark_contact.Goals as goal

pub loop-t-init : goal.loop-t-init
loop-t-init c = let a = c.args in rw c.from-start.ensures (marking-none a.n a.a a.b a.first a.last a.words.now c.requires)

pub mark_pair-requires : goal.mark_pair-requires
mark_pair-requires c =
    let a = c.args in
    let i = c.loop-t in
    rw (c.from.ensures, c.from-in-loop-t.ensures)
    (pair_fits a.n (length i.words) a.a a.b a.first a.last i.t (rw i.invariant.long c.requires) (omega arith))

pub loop-t-preserved : goal.loop-t-preserved
loop-t-preserved c =
    let a = c.args in
    let i = c.loop-t in
    marking-more a.n a.a a.b a.first a.last a.words.now i.t i.words _ (omega arith) i.invariant (rw (c.from.ensures, c.from-in-loop-t.ensures) at c.mark_pair.ensures)

pub returns : goal.returns
returns c =
    let a = c.args in
    let i = c.loop-t in
    marking-done a.n a.a a.b a.first a.last a.words.now i.t i.words (omega arith) i.invariant
