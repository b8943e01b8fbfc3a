-- head_line meets its contract: three labelled numbers and a newline.
use mathlib.Core.List.{append_assoc}
use Rattle.text.specs.Listing.{head_line}
use Rattle.text.proofs.line.head_line.Goals as goal

pub returns : goal.returns
unfolding head_line
returns c =
    rw (c.append.ensures, c.append_field-3.ensures.appends, c.append_field-2.ensures.appends, c.append_field.ensures.appends, c.new-line.ensures, c.from.ensures, c.from-2.ensures)
    (simp append_assoc)
