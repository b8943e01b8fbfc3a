-- `numbering::core_numbers` meets its contract. Before a turn the numbers are those that look no further than the orders tried, and the
-- badges left have the same cores above them. The loop ends as the order rises, which is at most one above the capacity.
use mathlib.Core.Path.{◌≡◌}
use Prim.Native.Nat.{◌+◌, ◌-◌, ◌≤◌}
use Rattle.sets.specs.Members.{capacity, members}
use Rattle.cores.specs.Rows.{graph}
use Rattle.cores.proofs.Levels.{Among, numbers_to}
use Rattle.cores.proofs.numbering.core_numbers.Given as goal

abbrev pub invariant-loop-rows : goal.invariant-loop-rows
invariant-loop-rows l =
    (1 ≤ l.order) × (l.order ≤ capacity + 1) × Among (graph l.rows) (members l.fn.base) (l.order - 1) (members l.left) × (l.numbers ≡ numbers_to l.rows (members l.fn.base) (l.order - 1))

abbrev pub decreases-loop-rows : goal.decreases-loop-rows
decreases-loop-rows l = capacity + 1 - l.order
