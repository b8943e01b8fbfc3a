-- `copy` meets its contract: after i turns the first i words are copied.
use mathlib.Core.Path.{◌≡◌}
use Prim.Native.Nat.{◌≤◌}
use lib.ListN.{length}
use Rattle.receivers.specs.Counting.{Copied}
use Rattle.receivers.proofs.quorum.copy.Given as goal

abbrev pub invariant-loop-i : goal.invariant-loop-i
invariant-loop-i l = (l.i ≤ l.size) × (length l.words ≡ length l.initial.words) × Copied l.from l.i l.work l.initial.words l.words
