-- `constant` meets its contract: each plane is a digit of the number, in every lane.
use Rattle.planes.proofs.Lanes.{repeated, repeated-constant, every_in}
use Rattle.planes.proofs.constant.Goals as goal

pub returns : goal.returns
unfolding repeated
returns c = repeated-constant _ every_in 8 _
