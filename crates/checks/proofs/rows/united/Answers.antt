-- `united` meets its contract: after i turns the set is the union over 8 * i rows, and past those of half a word, or of a word, n is above them.
use mathlib.Core.Path.{refl}
use mathlib.Core.Logic.{by_cases}
use Prim.Native.Nat.{◌*◌, ◌/◌}
use native.Mathlib.Decide.{dec_lt}
use native.Mathlib.Omega.{arith}
use borrow.Author.Rules.{rules}
use Rattle.sets.specs.Words.{word_bits, from_words}
use Rattle.checks.proofs.Changes.{union-none, union-join}
use Rattle.checks.proofs.TickRows.{in-use-all, in-use-word, in-use-half, union-over}
use Rattle.checks.proofs.rows.united.Goals as goal
use Rattle.checks.proofs.rows.united.Goals.{After-union}

pub loop-i-init : goal.loop-i-init
unfolding from_words
loop-i-init c = (search rules, union-none _ 0, λ l. absurd (omega arith), λ l. absurd (omega arith))

pub loop-i-preserved : goal.loop-i-preserved
loop-i-preserved c =
    let b = (goal.at.loop-i-preserved c).After-union in
    let s = b.before in
    let f = s.before.before.before in
    let j = f.before.before.before in
    let i = j.before in
    let l = i.before.before in
    let first = union-join f.two_rows.ensures f.two_rows-in-loop-i.ensures f.union-first.ensures (omega arith) (omega arith) (omega arith) refl in
    let second = union-join s.two_rows-in-loop-i-2.ensures s.two_rows-in-loop-i-3.ensures s.union-second.ensures (omega arith) (omega arith) (omega arith) refl in
    let both = union-join first second b.union.ensures (omega arith) (omega arith) (omega arith) refl in (
      omega arith,
      union-join l.loop-i.invariant.1 both c.union-all.ensures (omega arith) (omega arith) (omega arith) (omega arith),
      λ m. elim i.if-i.branch [ goal.then-i+else-n h ↦ h.if-n.false | goal.else-i h ↦ by_cases (dec_lt (word_bits / 2) (8 * l.loop-i.i)) l.loop-i.invariant.2 (λ k. absurd (h.if-i.false (omega (arith, m, k)))) ],
      λ m. elim j.if-i-2.branch [ goal.then-i-2+else-n-le-WORD_BITS h ↦ h.if-n-le-WORD_BITS.false | goal.else-i-2 h ↦ by_cases (dec_lt word_bits (8 * l.loop-i.i)) l.loop-i.invariant.3 (λ k. absurd (h.if-i-2.false (omega (arith, m, k)))) ],
    )

pub returns-after-loop-i : goal.returns-after-loop-i
returns-after-loop-i c = let v = c.loop-i.invariant in union-over _ (omega (arith, in-use-all _ (v.3 (omega arith)))) v.1

pub returns-then-n : goal.returns-then-n
returns-then-n c = let v = c.loop-i.invariant in union-over _ (omega (arith, c.if-i.true, in-use-half _ c.if-n.true)) v.1

pub returns-then-n-le-WORD_BITS : goal.returns-then-n-le-WORD_BITS
returns-then-n-le-WORD_BITS c = let v = c.loop-i.invariant in union-over _ (omega (arith, c.if-i-2.true, in-use-word _ (v.2 (omega (arith, c.if-i-2.true))) c.if-n-le-WORD_BITS.true)) v.1
