-- `span_rows` meets its contract: the rows of the first tick are narrowed to those of the span.
use native.Mathlib.Omega.{arith}
use Rattle.groups.proofs.Narrowing.{empty-zeros, first_of}
use Rattle.groups.proofs.rows.span_rows.Goals as goal

pub first_rows-requires : goal.first_rows-requires
first_rows-requires c = (omega (arith, c.args.span.rising), empty-zeros _)

pub narrow_to-requires : goal.narrow_to-requires
narrow_to-requires c = (c.requires, first_of c.args.span.rising c.first_rows.ensures)
