-- width_of meets its contract: the third byte says n, and n the bytes of a set.
use mathlib.Core.Path.{ap, ◌∙◌}
use Prim.Native.Nat.{ℕ}
use Rattle.spans.specs.Encoding.{form_of}
use Rattle.spans.proofs.Forms.{marked}
use Rattle.text.proofs.shown.width_of.Goals as goal

pub returns : goal.returns
returns c =
    let e = c.set_bytes.ensures ∙ ap (λ (n : ℕ). (form_of n).set_bytes) (c.from.ensures ∙ c.byte_at.ensures) in
    let m = marked _ in
    record { value = e; bounds = (rw e m.least, rw e m.most) }
