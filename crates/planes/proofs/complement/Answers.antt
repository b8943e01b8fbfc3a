-- `complement` meets its contract: the planes are flipped.
use native.Mathlib.Omega.{arith}
use Rattle.planes.proofs.Lanes.{flipped, flipped-complement}
use Rattle.planes.proofs.complement.Goals as goal

pub returns : goal.returns
unfolding flipped
returns c = flipped-complement _ (omega arith, (omega arith, (omega arith, (omega arith, (omega arith, (omega arith, (omega arith, (omega arith, tt))))))))
