-- `sort` meets its contract: after k turns the first k parts are sorted.
use mathlib.Core.Path.{◌≡◌}
use Prim.Native.Nat.{◌≤◌}
use lib.ListN.{length}
use Rattle.receivers.specs.Counting.{Sorted}
use Rattle.receivers.proofs.quorum.sort.Given as goal

abbrev pub invariant-loop-k : goal.invariant-loop-k
invariant-loop-k l = (l.k ≤ l.m) × (length l.work ≡ length l.initial.work) × Sorted l.k l.size l.initial.work l.work
