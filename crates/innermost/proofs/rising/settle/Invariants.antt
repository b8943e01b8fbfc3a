-- `rising::settle` meets its contract: what is left holds the core and the query, with its in-degrees counted, and fewer are left after each turn.
use mathlib.Core.Path.{◌≡◌}
use mathlib.Core.Bool.{true}
use lib.Dec.{ltb}
use Rattle.sets.specs.Bools.{◌and◌}
use Rattle.sets.specs.Sets.{is_sub, size}
use Rattle.sets.specs.Members.{members}
use Rattle.cores.specs.Rows.{graph}
use Rattle.innermost.specs.Degrees.{number_of}
use Rattle.innermost.proofs.Settling.{Settling}
use Rattle.innermost.proofs.rising.settle.Given as goal

abbrev pub invariant-loop-query : goal.invariant-loop-query
invariant-loop-query l =
    Settling (graph l.rows) (members l.initial.left.members) l.k (members l.left.members) (number_of l.left.degrees) × ((ltb 0 (members l.left.members) and is_sub (members l.query) (members l.left.members)) ≡ true)

abbrev pub decreases-loop-query : goal.decreases-loop-query
decreases-loop-query l = size (members l.left.members)
