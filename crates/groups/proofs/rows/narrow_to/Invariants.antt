-- `narrow_to` meets its contract: the rows are those of the span from its first tick to tick t.
use Rattle.groups.specs.Steps.{RowsTo}
use Rattle.groups.proofs.rows.narrow_to.Given as goal

abbrev pub invariant-loop-t : goal.invariant-loop-t
invariant-loop-t l = RowsTo l.day.badges l.day.words.now l.fn.span.first l.fn.span.last l.rows l.t
