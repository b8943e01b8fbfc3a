-- form_of meets its contract: up to 64 badges the narrow form, and above that the wide one.
use mathlib.Core.Path.{sym}
use native.Mathlib.Omega.{arith}
use Rattle.spans.proofs.Forms.{form-narrow, form-wide}
use Rattle.groups.proofs.form.form_of.Goals as goal

pub returns-then-badges-le-WORD_BITS : goal.returns-then-badges-le-WORD_BITS
returns-then-badges-le-WORD_BITS c = sym (form-narrow c.args.badges (omega (arith, c.if-badges-le-WORD_BITS.true)))

pub returns : goal.returns
returns c = sym (form-wide c.args.badges (omega (arith, c.if-badges-le-WORD_BITS.false)))
