-- `peeling::keep` meets its contract. Its loop's invariant: the words hold the rows of the members that are no longer to come, and empty rows else.
use mathlib.Core.Path.{◌≡◌}
use Rattle.sets.specs.Sets.{Sub}
use Rattle.sets.specs.Members.{members}
use Rattle.sets.specs.Words.{words_of}
use Rattle.cores.proofs.KeptRows.{rows_seen}
use Rattle.cores.proofs.peeling.keep.Given as goal

abbrev pub invariant-loop-u : goal.invariant-loop-u
invariant-loop-u l = Sub (members l.u-iterator.left) (members l.fn.kept) × (l.out ≡ words_of (rows_seen l.fn.rows (members l.fn.kept) (members l.u-iterator.left)))
