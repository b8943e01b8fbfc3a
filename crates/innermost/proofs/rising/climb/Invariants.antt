-- `rising::climb` meets its contract: before a turn the core found is the highest of the orders tried, and what is left contains the query and is counted
-- at the next order.
use mathlib.Core.Path.{◌≡◌}
use mathlib.Core.Bool.{true}
use lib.Dec.{ltb}
use Rattle.sets.specs.Bools.{◌and◌}
use Rattle.sets.specs.Sets.{is_sub}
use Rattle.sets.specs.Members.{members}
use Rattle.cores.specs.Rows.{graph}
use Rattle.innermost.specs.Degrees.{number_of}
use Rattle.innermost.specs.Rising.{Climbing}
use Rattle.innermost.proofs.rising.climb.Given as goal

abbrev pub invariant-loop-order : goal.invariant-loop-order
invariant-loop-order l = record {
  last : l.found.order ≡ l.order;
  climbing : Climbing (graph l.rows) (members l.fn.base) (members l.query) l.above l.stop l.order (members l.found.members) (members l.left.members) (number_of l.left.degrees);
  contained : (ltb 0 (members l.left.members) and is_sub (members l.query) (members l.left.members)) ≡ true;
}
