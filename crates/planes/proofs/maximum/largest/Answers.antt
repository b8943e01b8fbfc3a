-- `maximum::largest` meets its contract: plane by plane, the lanes of the largest number so far.
use Rattle.planes.proofs.LeadingLanes.{leads-start, leads-more, leads-end}
use Rattle.planes.proofs.maximum.largest.Goals as goal

pub returns : goal.returns
returns c =
    let l4 = leads-more (leads-more (leads-more (leads-more (leads-start _) c.narrow-l7.ensures) c.narrow-l6.ensures) c.narrow-l5.ensures) c.narrow-l4.ensures in
    leads-end (leads-more (leads-more (leads-more (leads-more l4 c.narrow-l3.ensures) c.narrow-l2.ensures) c.narrow-l1.ensures) c.narrow-l0.ensures)
