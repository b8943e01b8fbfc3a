-- `add` meets its contract: the carry goes on from plane to plane.
use Rattle.planes.proofs.Lanes.{added, added-plus}
use Rattle.planes.proofs.add.Goals as goal

pub returns : goal.returns
unfolding added
returns c = added-plus _ _
