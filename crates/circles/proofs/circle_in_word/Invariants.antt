-- `circle_in_word` meets its contract, as the walk over sets of all words does. It ends as those on the frontier and unreached get fewer.
use Rattle.sets.specs.Sets.{union, size}
use Rattle.cores.specs.Rows.{graph}
use Rattle.circles.proofs.WordWalks.{WordWalks}
use Rattle.circles.proofs.circle_in_word.Given as goal

abbrev pub invariant-loop-unreached : goal.invariant-loop-unreached
invariant-loop-unreached l = WordWalks (graph l.rows) l.word l.unreached l.frontier

abbrev pub decreases-loop-unreached : goal.decreases-loop-unreached
decreases-loop-unreached l = size (union l.frontier l.unreached)
