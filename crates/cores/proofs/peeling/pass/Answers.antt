-- `peeling::pass` meets its contract. What is left holds every cohesive subset of the set; while nobody is dropped, the members no
-- longer unseen have neighbours enough, and the smallest of their degrees is at hand. Before a turn those from word i on are unseen.
use mathlib.Core.Path.{◌≡◌}
use Prim.Native.Nat.{◌*◌, ◌^◌, ◌<◌}
use native.Mathlib.Omega.{arith}
use Rattle.sets.specs.Words.{word_bits}
use Rattle.sets.specs.Members.{capacity, members}
use Rattle.sets.proofs.Size.{size-le}
use Rattle.sets.proofs.Pairs.{members-lt}
use Rattle.sets.proofs.InWord.{from-first-word, from-last-word}
use Rattle.cores.proofs.Peelings.{pass-none, pass-done}
use Rattle.cores.proofs.peeling.pass.Goals as goal
use Rattle.cores.proofs.peeling.pass.Goals.{Start}

wide : (c : goal.Start) → members c.args.s < 2 ^ capacity
wide c = members-lt c.args.s (omega arith) (omega arith)

pub loop-i-init : goal.loop-i-init
loop-i-init c = (omega arith, rw (from-first-word _ (wide (goal.at.loop-i-init c).Start)) (pass-none _ _ _))

pub loop-i-preserved : goal.loop-i-preserved
loop-i-preserved c = (omega arith, c.look_at_word-kept.ensures c.loop-i.invariant.1)

pub returns : goal.returns
returns c =
    let w = wide (goal.at.returns c).Start in
    let e : c.loop-i.i * word_bits ≡ capacity = omega arith in
    pass-done c.loop-i.invariant.1 (size-le capacity _ w) (rw e (from-last-word _ w))
