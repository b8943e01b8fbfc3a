-- append_members meets its contract: before each turn of the loop the line, and the members that are still to come, are the old line and all members.
use mathlib.Core.Path.{◌≡◌}
use mathlib.Core.List.{◌++◌}
use Rattle.sets.specs.Sets.{Sub}
use Rattle.sets.specs.Members.{members}
use Rattle.text.specs.Listing.{member_list}
use Rattle.text.proofs.line.Line.append_members.Given as goal

abbrev pub invariant-loop-u : goal.invariant-loop-u
invariant-loop-u l =
    let left = members l.u-iterator.left in
    record { some : Sub left (members l.fn.set); listed : l.self ++ member_list left ≡ l.fn.self ++ member_list (members l.fn.set) }
