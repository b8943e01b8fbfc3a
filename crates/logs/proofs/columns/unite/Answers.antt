-- unite meets its contract: the columns of the badges that are no longer to come have the bits, and all others are as they were.
use mathlib.Core.Path.{◌≡◌, refl, ap, ◌∙◌}
use Prim.Native.Nat.{ℕ, ◌+◌, ◌*◌, ◌<◌}
use native.Mathlib.Omega.{arith}
use borrow.Author.Rules.{rules}
use lib.Bits.{bit_or}
use lib.ListN.{length}
use Rattle.sets.specs.Sets.{In, union}
use Rattle.sets.specs.Members.{capacity}
use Rattle.sets.specs.Words.{word_bits, in_word}
use Rattle.sets.proofs.Sets.{sub_refl}
use Rattle.sets.proofs.Tables.{tabulate-is}
use Rattle.sets.proofs.InWord.{at-hand, word_none, word-fewer}
use Rattle.sets.proofs.Walks.{unseen-less, fill_start, fill-next, fill-unseen, fill_end}
use Rattle.checks.proofs.WordWalks.{word-without}
use Rattle.logs.specs.TickSets.{united}
use Rattle.logs.proofs.columns.unite.Goals as goal
use Rattle.logs.proofs.columns.unite.Goals.{In-Some}

pub loop-place-init : goal.loop-place-init
loop-place-init c =
    let a = c.args in
    let full : length a.columns.now ≡ capacity = search rules in
    rw c.into_iter-place-iterator.ensures.into_iter_gives
    (omega arith, sub_refl _, tabulate-is capacity a.columns.now _ full (λ i l. refl) ∙ fill_start capacity (in_word a.i a.word) _ _)

-- the badge at hand is one of those to come, and there is a column for it
here : (c : goal.In-Some) →
    let v = c.args.i * word_bits + c.in-Some.place in
    In (in_word c.args.i c.loop-place.place-iterator.word) v × (v < capacity)
here c =
    let t = c.in-Some.ensures.steps in
    let i = at-hand c.args.i c.loop-place.place-iterator.word c.in-Some.place c.loop-place.invariant.0 (λ e. omega (arith, t.0)) t.1 in
    (i.0, omega (arith, i.1, c.requires))

pub overflow_add-columns : goal.overflow_add-columns
overflow_add-columns c = omega (arith, (here (goal.at.overflow_add-columns c).In-Some).1)

pub offset_bounds-columns-i : goal.offset_bounds-columns-i
offset_bounds-columns-i c = omega (arith, (here (goal.at.offset_bounds-columns-i c).In-Some).1)

pub bounds-columns-i : goal.bounds-columns-i
bounds-columns-i c = (here (goal.at.bounds-columns-i c).In-Some).1

pub bounds-columns-i-in-loop-place : goal.bounds-columns-i-in-loop-place
bounds-columns-i-in-loop-place c = (here (goal.at.bounds-columns-i-in-loop-place c).In-Some).1

pub loop-place-preserved : goal.loop-place-preserved
unfolding union
loop-place-preserved c =
    let h = c.loop-place.invariant in
    let t = c.in-Some.ensures.steps in
    let i = here (goal.at.loop-place-preserved c).In-Some in
    let rest = word-without c.args.i c.loop-place.place-iterator.word c.in-Some.place h.0 t in
    let e = ap (λ (x : ℕ). bit_or x c.args.bits) (fill-unseen capacity _ _ _ h.1 i.0 i.1 h.2) in
    (word-fewer _ _ t h.0, rw rest (unseen-less _ h.1), rw rest (fill-next capacity _ _ _ h.1 i.0 i.1 e h.2))

pub returns : goal.returns
unfolding united
returns c = fill_end capacity _ _ _ (word_none c.args.i _ c.in-None.ensures.steps.0) c.loop-place.invariant.2
