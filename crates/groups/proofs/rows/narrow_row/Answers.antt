-- `narrow_row` meets its contract: it stores one word.
use Rattle.groups.proofs.NarrowedSides.{side-one}
use Rattle.groups.proofs.rows.narrow_row.Goals as goal

pub returns : goal.returns
returns c = side-one c.requires
