-- `compare_exchange` meets its contract: after i turns the first i words of the two parts are exchanged.
use mathlib.Core.Path.{◌≡◌}
use Prim.Native.Nat.{◌≤◌}
use lib.ListN.{length}
use Rattle.receivers.specs.Counting.{Exchanged}
use Rattle.receivers.proofs.quorum.compare_exchange.Given as goal

abbrev pub invariant-loop-i : goal.invariant-loop-i
invariant-loop-i l = (l.i ≤ l.size) × (length l.work ≡ length l.initial.work) × Exchanged l.first l.second l.i l.initial.work l.work
