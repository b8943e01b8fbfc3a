-- `rising::highest_core` meets its contract: the core is the one that was found, and the rows come back.
use mathlib.Core.Path.{refl}
use Rattle.innermost.proofs.rising.highest_core.Goals as goal

pub returns : goal.returns
returns c =
    let h = c.highest-found.ensures in
    record { order = h.order; members = h.members; back = refl }
