-- `peeling::look_at_word` meets its contract. Its loop's invariant: the word's badges that are no longer to come have had their turn.
use Prim.Native.Nat.{◌<◌}
use native.Mathlib.Omega.{arith}
use Rattle.sets.specs.Words.{word_bits}
use Rattle.sets.specs.Members.{members}
use Rattle.sets.proofs.Pairs.{members-lt}
use Rattle.sets.proofs.InWord.{at-hand, unseen-first, unseen-last, unseen-taken, word-fewer}
use Rattle.cores.proofs.Peelings.{pass-more}
use Rattle.cores.proofs.peeling.look_at_word.Goals as goal
use Rattle.cores.proofs.peeling.look_at_word.Goals.{In-Some}

pub loop-place-init : goal.loop-place-init
loop-place-init c =
    let a = c.args in
    rw c.into_iter-place-iterator.ensures.into_iter_gives (omega arith, λ p. rw (unseen-first (members a.s) a.i (members-lt a.s (omega arith) (omega arith)) c.word-word.ensures) at p)

-- the badge at hand is one of the word
here : (c : goal.In-Some) → c.in-Some.place < word_bits
here c = let t = c.in-Some.ensures.steps in (at-hand 0 c.loop-place.place-iterator.word _ c.loop-place.invariant.0 (λ e. omega (arith, t.0)) t.1).1

pub overflow_mul-i : goal.overflow_mul-i
overflow_mul-i c = omega arith

pub overflow_add-i : goal.overflow_add-i
overflow_add-i c = omega (arith, here (goal.at.overflow_add-i c).In-Some)

pub look_at-kept-requires : goal.look_at-kept-requires
look_at-kept-requires c = omega (arith, here (goal.at.look_at-kept-requires c).In-Some)

pub loop-place-preserved : goal.loop-place-preserved
loop-place-preserved c =
    let a = c.args in
    let l = c.loop-place in
    let t = unseen-taken (members a.s) a.i l.place-iterator.word _ l.invariant.0 c.in-Some.ensures.steps in
    (word-fewer _ _ c.in-Some.ensures.steps l.invariant.0, λ p. rw t.1 (pass-more (l.invariant.1 p) _ t.0 c.look_at-kept.ensures))

pub returns : goal.returns
returns c p =
    let a = c.args in
    rw (unseen-last (members a.s) a.i c.in-None.ensures.steps.0) at (c.loop-place.invariant.1 p)
