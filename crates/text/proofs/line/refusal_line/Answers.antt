-- refusal_line meets its contract: two labelled numbers and a newline.
use mathlib.Core.List.{append_assoc}
use Rattle.text.specs.Listing.{refusal_line}
use Rattle.text.proofs.line.refusal_line.Goals as goal

pub returns : goal.returns
unfolding refusal_line
returns c =
    rw (c.append.ensures, c.append_field-2.ensures.appends, c.append_field.ensures.appends, c.new-line.ensures, c.from.ensures)
    (simp append_assoc)
