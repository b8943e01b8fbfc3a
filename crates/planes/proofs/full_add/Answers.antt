-- `full_add` meets its contract: the bits of the sum of three bits.
use Rattle.planes.proofs.Lanes.{full-adder}
use Rattle.planes.proofs.full_add.Goals as goal

pub returns : goal.returns
returns c = full-adder c.args.a c.args.b c.args.c
