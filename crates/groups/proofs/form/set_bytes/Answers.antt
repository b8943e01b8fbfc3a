-- set_bytes meets its contract: the form says it.
use mathlib.Core.Path.{ap}
use Rattle.spans.specs.Encoding.{Form}
use Rattle.groups.proofs.form.set_bytes.Goals as goal

pub returns : goal.returns
returns c = ap (λ (f : Form). f.set_bytes) c.form_of-form.ensures
