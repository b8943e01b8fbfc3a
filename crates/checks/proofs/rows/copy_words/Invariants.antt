-- copy_words meets its contract: after i turns the first i words are the tick's, and the others as they were.
use mathlib.Core.Path.{◌≡◌}
use Prim.Native.Nat.{◌≤◌}
use lib.ListN.{length}
use lib.Seq.{paste}
use Rattle.checks.proofs.rows.copy_words.Given as goal

abbrev pub invariant-loop-i : goal.invariant-loop-i
invariant-loop-i l = (l.i ≤ l.count) × (length l.rows ≡ length l.initial.rows) × (l.rows ≡ paste l.initial.rows 0 l.tick l.i)
