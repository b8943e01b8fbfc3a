-- group_line meets its contract: three labelled numbers, the members and a newline.
use mathlib.Core.List.{append_assoc}
use Rattle.text.specs.Listing.{group_line}
use Rattle.text.proofs.line.group_line.Goals as goal

pub returns : goal.returns
unfolding group_line
returns c =
    rw (
      c.append-2.ensures,
      c.append_members.ensures.appends,
      c.append.ensures,
      c.append_field-3.ensures.appends,
      c.append_field-2.ensures.appends,
      c.append_field.ensures.appends,
      c.new-line.ensures,
      c.from.ensures,
      c.from-2.ensures,
      c.from-3.ensures,
    )
    (simp append_assoc)
