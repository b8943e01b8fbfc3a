-- `walk_upper` meets its contract: the walk over the second word has the badges that are still to come for those unseen.
use mathlib.Core.Path.{◌≡◌, refl, ap, ◌∙◌}
use Prim.Native.Nat.{ℕ, ◌+◌, ◌*◌, ◌/◌, ◌%◌, ◌^◌, ◌<◌}
use native.Mathlib.Nat.{le_refl}
use native.Mathlib.Omega.{arith}
use lib.ListN.{get_or}
use borrow.Author.Rules.{rules}
use Rattle.sets.specs.Sets.{In, symmetric_difference, only}
use Rattle.sets.specs.Words.{word_bits, to_words, lower_words, in_word, set_at, put_set}
use Rattle.sets.proofs.Bits.{one_shl}
use Rattle.sets.proofs.Bools.{clash}
use Rattle.sets.proofs.InWord.{at-hand, only-word, word_none, word-fewer}
use Rattle.checks.specs.Changes.{change_at}
use Rattle.checks.proofs.WordWalks.{word-without}
use Rattle.checks.proofs.KnownRows.{Put, put-row}
use Rattle.checks.proofs.Walk.{walk_more}
use Rattle.checks.proofs.UpperWalk.{upper-none, upper-broken, upper-done}
use Rattle.checks.proofs.checking.walk_upper.Goals as goal
use Rattle.checks.proofs.checking.walk_upper.Goals.{In-Some, After-toggle, After-word-word}

-- the badge at hand is one of those unseen
hand : (c : goal.In-Some) → In (in_word 1 c.loop-place.place-iterator.word) (1 * word_bits + c.in-Some.place) × (c.in-Some.place < word_bits)
hand c =
    let t = c.in-Some.ensures.steps in
    at-hand 1 c.loop-place.place-iterator.word c.in-Some.place c.loop-place.invariant.1 (λ e. omega arith) t.1

-- the badge whose row is walked is changed in its row
own : (u : ℕ) → in_word (u / word_bits) ((1 * 2 ^ (u % word_bits)) % 2 ^ word_bits) ≡ only u
own u =
    let e : u / word_bits * word_bits + u % word_bits ≡ u = omega arith in
    ap (in_word (u / word_bits)) (one_shl (u % word_bits) (omega arith)) ∙ only-word (u / word_bits) (u % word_bits) ∙ ap only e

changed : (c : goal.After-toggle) → c.in-Some.place < word_bits →
    let known = c.loop-place.known in
    let v = 1 * word_bits + c.in-Some.place in
    Put known v (symmetric_difference (set_at known v) (only c.args.u)) c.toggle.new.known
changed c low =
    let known = c.loop-place.known in
    let v = 1 * word_bits + c.in-Some.place in
    put-row known v _ (omega (arith, c.loop-place.invariant.0))
    (c.toggle.ensures ∙ ap (λ (s : ℕ). put_set known v (symmetric_difference (set_at known v) s)) (own c.args.u))

-- the second word of what changes in the row
second : (c : goal.After-word-word) →
    let a = c.args in
    c.word-word.result ≡ get_or (to_words lower_words (change_at a.tick.now a.known.now a.u)) 1 0
second c = c.word-word.ensures ∙ ap (λ (s : ℕ). get_or (to_words lower_words s) 1 0) c.change_at.ensures

pub loop-place-init : goal.loop-place-init
loop-place-init c =
    let e = c.into_iter-place-iterator.ensures.into_iter_gives in
    rw e (search rules, omega arith, (λ w l. refl), λ n few l p. upper-none _ _ few l p (second (goal.at.loop-place-init c).After-word-word))

pub overflow_add-v : goal.overflow_add-v
overflow_add-v c = omega (arith, (hand (goal.at.overflow_add-v c).In-Some).1)

pub returns-then-v-u : goal.returns-then-v-u
returns-then-v-u c n few l p =
    let v = c.loop-place.invariant in
    let i = hand (goal.at.returns-then-v-u c).In-Some in
    record {
      passed = λ e. absurd (clash e refl);
      broken = λ e. upper-broken _ _ few l p (second (goal.at.returns-then-v-u c).After-word-word) (v.3 n few l p) v.2 (1 * word_bits + c.in-Some.place) i.0 (omega arith) c.if-v-u.true;
    }

pub toggle-requires : goal.toggle-requires
toggle-requires c = (omega (arith, (hand (goal.at.toggle-requires c).In-Some).1, c.loop-place.invariant.0), omega arith)

pub loop-place-preserved : goal.loop-place-preserved
loop-place-preserved c =
    let v = c.loop-place.invariant in
    let t = c.in-Some.ensures.steps in
    let i = hand (goal.at.loop-place-preserved c).In-Some in
    let p = changed (goal.at.loop-place-preserved c).After-toggle i.1 in
    let v-place = 1 * word_bits + c.in-Some.place in
    let rest = word-without 1 c.loop-place.place-iterator.word c.in-Some.place v.1 t in (
      p.size ∙ v.0,
      word-fewer _ _ t v.1,
      (λ w l. p.others w (λ e. omega arith) ∙ v.2 w l),
      λ n few l q. rw rest (walk_more (v.3 n few l q) l v-place i.0 (omega arith) p.there p.others),
    )

pub returns : goal.returns
returns c n few l p =
    let v = c.loop-place.invariant in
    let u = c.args.u in
    let known = c.loop-place.known in
    let q = put-row known u _ (omega arith) c.toggle-2.ensures in
    record {
      passed = λ e. upper-done _ _ few l p (second (goal.at.returns c).After-word-word) (v.3 n few l p) v.2 (word_none 1 _ c.in-None.ensures.steps.0) (q.size ∙ v.0) (q.there ∙ ap (λ (s : ℕ). symmetric_difference s (in_word 1 c.word-word.result)) (v.2 u (le_refl u))) q.others;
      broken = λ e d. clash refl e;
    }
