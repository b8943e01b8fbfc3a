-- append_field meets its contract: the label, and then the digits.
use native.Mathlib.Omega.{arith}
use Rattle.text.proofs.Appended.{field-printed}
use Rattle.text.proofs.line.Line.append_field.Goals as goal

pub returns-clause-appends : goal.returns-clause-appends
returns-clause-appends c =
    rw (c.append-2.ensures, c.append.ensures, c.as_bytes.ensures.value, c.format.ensures.text)
    (field-printed c.args.self.now c.args.label.now c.args.n (omega arith))
