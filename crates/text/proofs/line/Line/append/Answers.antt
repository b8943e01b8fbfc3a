-- append meets its contract: the bytes are put behind those that stand in the line.
use mathlib.Core.Path.{◌≡◌, sym, ap, ◌∙◌}
use mathlib.Core.List.{List, ◌++◌}
use Prim.Native.Nat.{ℕ, ◌+◌}
use native.Mathlib.Omega.{arith}
use lib.ListN.{length, take}
use lib.Seq.{length-take-le}
use borrow.Author.Rules.{rules}
use Rattle.logs.proofs.Delivering.{take-place}
use Rattle.text.specs.declared.line.TheConstants.{LINE_ROOM}
use Rattle.text.proofs.line.Line.append.Goals as goal

pub returns : goal.returns
returns c =
    let l = c.self.inside in
    let bytes = c.args.bytes.now in
    let room : length l.bytes ≡ LINE_ROOM = search rules in
    let long : l.len ≡ length c.args.self.now = sym (length-take-le l.len l.bytes (omega (arith, c.self.invariant))) ∙ ap length c.self.view_is in
    ap (take (l.len + length bytes)) c.put.ensures ∙ take-place l.len bytes l.bytes (omega arith) ∙ ap (λ (x : List ℕ). x ++ bytes) c.self.view_is
