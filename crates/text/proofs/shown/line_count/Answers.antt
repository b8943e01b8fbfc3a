-- line_count meets its contract: the records of the report, and the first line.
use mathlib.Core.Path.{ap, ◌∙◌}
use Prim.Native.Nat.{ℕ, suc, ◌-◌, ◌/◌}
use native.Mathlib.Nat.{div-le_self}
use native.Mathlib.Numerals.{add-one}
use native.Mathlib.Omega.{arith}
use Rattle.spans.specs.Encoding.{core_bytes}
use Rattle.text.proofs.shown.line_count.Goals as goal

pub overflow_add-result : goal.overflow_add-result
overflow_add-result c = omega (arith, c.record_count.ensures, div-le_self (c.in-Ok.size - 10) (core_bytes c.width_of.result))

pub returns-in-Ok : goal.returns-in-Ok
returns-in-Ok c =
    rw c.in-Ok.is (add-one _ ∙ ap suc (c.record_count.ensures ∙ ap (λ (k : ℕ). (c.in-Ok.size - 10) / core_bytes k) c.width_of.ensures.value))
