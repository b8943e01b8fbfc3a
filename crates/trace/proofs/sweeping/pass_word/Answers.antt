-- `pass_word` meets its contract. Its loop's invariant: of the unseen badges, those of the word have had their turn that are no longer left of it.
use mathlib.Core.Path.{refl, ap, ◌∙◌}
use Prim.Native.Nat.{ℕ, ◌+◌, ◌*◌, ◌<◌}
use native.Mathlib.Omega.{arith}
use lib.ListN.{length}
use borrow.Author.Rules.{rules}
use Rattle.sets.specs.Sets.{In}
use Rattle.sets.specs.Words.{word_bits, in_word}
use Rattle.sets.proofs.Sets.{of-full, sub_refl, sub_trans}
use Rattle.sets.proofs.InWord.{at-hand, word_none, word-fewer}
use Rattle.checks.proofs.WordWalks.{word-without}
use Rattle.sets.proofs.Walks.{unseen-less}
use Rattle.trace.proofs.Turns.{shown-long, turned_more}
use Rattle.trace.proofs.WordTurns.{left-start, left_in, left-more, left_end}
use Rattle.trace.proofs.sweeping.pass_word.Goals as goal
use Rattle.trace.proofs.sweeping.pass_word.Goals.{In-Some}

pub loop-place-init : goal.loop-place-init
loop-place-init c = rw c.into_iter-place-iterator.ensures.into_iter_gives (search rules, omega arith, sub_refl _, λ all first h w. rw (left-start all _) w)

-- the badge at hand is one that is left of the word, and of the tick
abbrev Badge : goal.In-Some → ℕ
Badge c = c.args.i * word_bits + c.in-Some.place

hand : (c : goal.In-Some) → In (in_word c.args.i c.loop-place.place-iterator.word) (Badge c) × (c.in-Some.place < word_bits)
hand c =
    let t = c.in-Some.ensures.steps in
    at-hand _ c.loop-place.place-iterator.word _ c.loop-place.invariant.1 (λ e. omega (arith, t.0)) t.1

there : (c : goal.In-Some) → Badge c < c.args.n
there c = of-full _ (Badge c) (c.requires.3.at (Badge c) (c.loop-place.invariant.2.at (Badge c) (hand c).0))

pub overflow_add-u : goal.overflow_add-u
overflow_add-u c = omega (arith, there (goal.at.overflow_add-u c).In-Some, c.requires.0)

pub overflow_mul-u : goal.overflow_mul-u
overflow_mul-u c = omega (arith, there (goal.at.overflow_mul-u c).In-Some, c.requires.0)

pub reach-reached-requires : goal.reach-reached-requires
reach-reached-requires c = (there (goal.at.reach-reached-requires c).In-Some, c.requires.0, c.requires.1, c.loop-place.invariant.0)

pub loop-place-preserved : goal.loop-place-preserved
loop-place-preserved c =
    let i = (goal.at.loop-place-preserved c).In-Some in
    let l = c.loop-place in
    let t = c.in-Some.ensures.steps in
    let rest = word-without c.args.i l.place-iterator.word c.in-Some.place l.invariant.1 t in
    let g = c.reach-reached.ensures.leaves in (
      ap length g ∙ shown-long _ _ _ _ _ ∙ l.invariant.0,
      word-fewer _ _ t l.invariant.1,
      rw rest (unseen-less (Badge i) l.invariant.2),
      λ all first h w. rw (rest, left-more all _ _ (Badge i) l.invariant.2 (hand i).0)
          (turned_more _ _ _ _ (Badge i) (l.invariant.3 all first h w) (left_in all _ _ (Badge i) (sub_trans l.invariant.2 h) (hand i).0) refl (omega (arith, there i, c.requires.0)) c.reach-reached.ensures.reached g),
    )

pub returns : goal.returns
returns c all first h w =
    let l = c.loop-place in
    let a = c.args in
    rw (← left_end all (in_word a.i a.word) (word_none a.i l.place-iterator.word c.in-None.ensures.steps.0)) (l.invariant.3 all first h w)
