-- copy_words meets its contract: after i turns the first i words are the tick's, and the others as they were.
use mathlib.Core.Path.{◌≡◌, refl, sym, ap, ◌∙◌}
use mathlib.Core.List.{List, ◌++◌}
use Prim.Native.Nat.{ℕ}
use native.Mathlib.Omega.{arith}
use native.Mathlib.Nat.{zero-add}
use native.Mathlib.Numerals.{add-one}
use lib.ListN.{set, get_or, take, drop, length-set}
use lib.Seq.{paste, paste-zero, paste-suc}
use borrow.Author.Rules.{rules}
use Rattle.checks.proofs.rows.copy_words.Goals as goal

pub loop-i-init : goal.loop-i-init
loop-i-init c = let a = c.args in (search rules, refl, paste-zero a.rows.now 0 a.tick.now)

pub loop-i-preserved : goal.loop-i-preserved
loop-i-preserved c =
    let a = c.args in
    let i = c.loop-i.i in (
      search rules,
      simp length-set (search rules),
      ap (λ (l : List ℕ). set l i (get_or a.tick.now i 0)) c.loop-i.invariant.2
          ∙ ap (λ (k : ℕ). set (paste a.rows.now 0 a.tick.now i) k (get_or a.tick.now i 0)) (sym (zero-add i))
          ∙ paste-suc a.rows.now 0 a.tick.now i 0 (omega arith) (omega arith)
          ∙ ap (paste a.rows.now 0 a.tick.now) (sym (add-one i)),
    )

pub returns : goal.returns
returns c =
    let a = c.args in
    let e : c.loop-i.i ≡ a.count = omega arith in
    c.loop-i.invariant.2 ∙ ap (paste a.rows.now 0 a.tick.now) e ∙ ap (λ (k : ℕ). take a.count a.tick.now ++ drop k a.rows.now) (zero-add a.count)
