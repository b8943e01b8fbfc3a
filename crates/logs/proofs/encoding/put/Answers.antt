-- put meets its contract: a buffer that does not hold the bytes is left as it is, and in any other the first i bytes are copied after i turns.
use mathlib.Core.Path.{◌≡◌, refl, sym, ap, ◌∙◌}
use mathlib.Core.List.{List}
use Prim.Native.Nat.{ℕ, ◌+◌}
use native.Mathlib.Omega.{arith}
use native.Mathlib.Numerals.{add-one}
use lib.ListN.{length, set, get_or, length-set}
use lib.Seq.{paste, paste-zero, paste-suc}
use borrow.Author.Rules.{rules}
use Rattle.logs.proofs.Delivering.{overwrite-paste, place-fits, place-not}
use Rattle.logs.proofs.encoding.put.Goals as goal

pub returns-then-buffer-bytes : goal.returns-then-buffer-bytes
returns-then-buffer-bytes c = let a = c.args in sym (place-not a.at a.bytes.now a.buffer.now (omega arith))

pub returns-then-buffer-bytes-2 : goal.returns-then-buffer-bytes-2
returns-then-buffer-bytes-2 c =
    let a = c.args in
    sym (place-not a.at a.bytes.now a.buffer.now (omega arith))

pub loop-i-init : goal.loop-i-init
loop-i-init c = let a = c.args in (search rules, refl, refl, paste-zero a.buffer.now a.at a.bytes.now)

pub loop-i-preserved : goal.loop-i-preserved
loop-i-preserved c =
    let a = c.args in
    let i = c.loop-i.i in (
      search rules,
      refl,
      simp length-set (search rules),
      ap (λ (l : List ℕ). set l (a.at + i) (get_or a.bytes.now i 0)) c.loop-i.invariant.3
          ∙ paste-suc a.buffer.now a.at a.bytes.now i 0 (omega arith) (omega arith)
          ∙ ap (paste a.buffer.now a.at a.bytes.now) (sym (add-one i)),
    )

pub returns : goal.returns
returns c =
    let a = c.args in
    let e : c.loop-i.i ≡ length a.bytes.now = omega arith in
    c.loop-i.invariant.3 ∙ ap (paste a.buffer.now a.at a.bytes.now) e ∙ sym (overwrite-paste a.at a.bytes.now a.buffer.now)
    ∙ sym (place-fits a.at a.bytes.now a.buffer.now (omega arith))
