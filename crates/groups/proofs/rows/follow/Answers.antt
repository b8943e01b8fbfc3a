-- `follow` meets its contract: the rows of a span are narrowed to those of a longer one, or those of a first tick are.
use mathlib.Core.Path.{◌≡◌}
use native.Mathlib.Omega.{arith}
use Rattle.groups.proofs.Narrowing.{empty-span, first_of}
use Rattle.groups.proofs.rows.follow.Goals as goal

pub narrow_to-requires : goal.narrow_to-requires
narrow_to-requires c =
    let e : c.args.at.first ≡ c.args.to.first = c.if-at-to.true in
    (c.requires.0, record { low = rw e at c.args.at.rising; high = c.if-at-to-2.true; are = rw e at c.requires.1 })

pub first_rows-requires : goal.first_rows-requires
first_rows-requires c = (omega (arith, c.args.to.rising), empty-span _ _ _ _ c.requires.1)

pub narrow_to-requires-2 : goal.narrow_to-requires-2
narrow_to-requires-2 c = (c.requires.0, first_of c.args.to.rising c.first_rows.ensures)
