-- put_core meets its contract: the first bytes of a record with a set of 16 bytes are those of one with a shorter set.
use mathlib.Core.Path.{◌≡◌, ap, ap₂, ◌∙◌}
use mathlib.Core.List.{List}
use Prim.Native.Nat.{ℕ, ◌-◌}
use native.Mathlib.Omega.{arith}
use lib.ListN.{take}
use borrow.Author.Rules.{rules}
use Rattle.logs.specs.Buffers.{place}
use Rattle.spans.specs.Encoding.{core_bytes}
use Rattle.spans.proofs.Encoding.{encode-core-take}
use Rattle.groups.specs.Keeping.{core_of}
use Rattle.groups.proofs.encoding.put_core.Goals as goal
use Rattle.groups.proofs.encoding.put_core.Goals.{After-put}

pub returns : goal.returns
returns c =
    let p = (goal.at.returns c).After-put in
    let a = c.args in
    let e : core_bytes a.width - 0 ≡ core_bytes a.width = omega arith in
    p.put.ensures ∙ ap (λ (bs : List ℕ). place a.at bs a.buffer.now) (ap₂ (λ (k : ℕ) (bs : List ℕ). take k bs) e c.record_bytes-bytes.ensures ∙ encode-core-take a.width 16 a.mark (search rules) c.requires (core_of a.shown))
