-- `clear` meets its contract: the words before the part at hand are zero, and the others as they were.
use mathlib.Core.Path.{◌≡◌, sym, ap, ap₂, ◌∙◌}
use mathlib.Core.List.{List, ◌++◌, append_assoc}
use Prim.Native.Nat.{ℕ, ◌+◌, ◌-◌, ◌≤◌}
use native.Mathlib.Omega.{arith}
use lib.ListN.{length, take, drop, replicate, length-append, length-drop, length-replicate, replicate-append-replicate}
use lib.Seq.{length-take-le, take_at, drop_at, drop-drop}
use borrow.Rule.Slice.PartMut.{put_mid}
use Rattle.days.proofs.day.clear.Goals as goal

-- one part more is zero
more : (at end : ℕ) (lent words part : List ℕ) → at ≤ end → end ≤ length lent → length words ≡ length lent → words ≡ replicate at 0 ++ drop at lent
    → part ≡ replicate (length (take (end - at) (drop at words))) 0 → put_mid at (end - at) words part ≡ replicate end 0 ++ drop end lent
more at end lent words part l h e w p =
    let size : length (take (end - at) (drop at words)) ≡ end - at = length-take-le (end - at) (drop at words) (omega (arith, length-drop at words)) in
    let zeros : length (replicate {A = ℕ} at 0) ≡ at = length-replicate at 0 in
    let front : take at words ≡ replicate at 0 = ap (take at) w ∙ take_at (replicate at 0) (drop at lent) at zeros in
    let rest : drop at words ≡ drop at lent = ap (drop at) w ∙ drop_at (replicate at 0) (drop at lent) at zeros in
    let sum : at + (end - at) ≡ end = omega arith in
    ap₂ ◌++◌ front (ap₂ ◌++◌ (p ∙ ap (λ (k : ℕ). replicate k 0) size) (ap (drop (end - at)) rest ∙ drop-drop (end - at) at lent ∙ ap (λ (k : ℕ). drop k lent) sum))
    ∙ sym (append_assoc (replicate at 0) (replicate (end - at) 0) (drop end lent))
    ∙ ap (λ (x : List ℕ). x ++ drop end lent) (replicate-append-replicate at (end - at) 0 ∙ ap (λ (k : ℕ). replicate k 0) sum)

pub loop-at-preserved : goal.loop-at-preserved
loop-at-preserved c =
    let p = c.part_end-end.ensures in
    let lent = c.args.words.now in
    let e = more c.loop-at.at c.part_end-end.result lent c.loop-at.words _ (omega (arith, p)) (omega (arith, p, c.loop-at.invariant.1)) c.loop-at.invariant.1 c.loop-at.invariant.2 (c.fill.ensures.after (λ y e. e)) in
    (omega (arith, p, c.loop-at.invariant.1), ap length e ∙ length-append (replicate c.part_end-end.result 0) _ ∙ omega (arith, length-replicate {A = ℕ} c.part_end-end.result 0, length-drop c.part_end-end.result lent, p, c.loop-at.invariant.1), e)
