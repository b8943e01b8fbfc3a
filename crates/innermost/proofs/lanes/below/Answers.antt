-- `lanes::below` meets its contract: the last planes have the badges whose number is half or more.
use native.Mathlib.Omega.{arith}
use Rattle.innermost.proofs.CountedDegrees.{below-is}
use Rattle.innermost.proofs.lanes.below.Goals as goal

pub returns : goal.returns
returns c = below-is _ (omega arith) (omega arith) c.from_words.ensures
