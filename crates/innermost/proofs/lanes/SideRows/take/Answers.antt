-- `lanes::SideRows::take` meets its contract: a word that is not empty has a smallest badge, whose row is taken.
use native.Mathlib.Omega.{arith}
use Rattle.innermost.proofs.CountedLanes.{takes_none, takes_first}
use Rattle.innermost.proofs.lanes.SideRows.take.Goals as goal

pub returns-then-word-eq0 : goal.returns-then-word-eq0
returns-then-word-eq0 c = takes_none _ c.if-word-eq0.true

pub returns : goal.returns
returns c = takes_first _ c.args.word (omega arith) c.if-word-eq0.false c.word.ensures
