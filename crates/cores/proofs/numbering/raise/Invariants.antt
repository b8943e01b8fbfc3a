-- `numbering::raise` meets its contract. Its loop's invariant: the members that are no longer to come have the number k.
use mathlib.Core.Path.{◌≡◌}
use lib.ListN.{get_or}
use Rattle.sets.specs.Sets.{Sub, difference}
use Rattle.sets.specs.Members.{capacity, members}
use Rattle.sets.specs.Tables.{tabulate, piecewise}
use Rattle.cores.proofs.numbering.raise.Given as goal

abbrev pub invariant-loop-u : goal.invariant-loop-u
invariant-loop-u l =
    let s = members l.fn.s in
    let left = members l.u-iterator.left in
    Sub left s × (l.numbers ≡ tabulate capacity (piecewise (difference s left) (λ u. l.k) (λ u. get_or l.fn.numbers u 0)))
