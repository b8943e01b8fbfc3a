-- `insert` meets its contract: after j turns the part is exchanged with the first j.
use mathlib.Core.List.{List}
use mathlib.Core.Path.{◌≡◌}
use Prim.Native.Nat.{ℕ, ◌≤◌}
use lib.ListN.{length}
use Rattle.receivers.specs.Counting.{Sorted}
use Rattle.receivers.proofs.Sorting.{Inserting}
use Rattle.receivers.proofs.quorum.insert.Given as goal

abbrev pub invariant-loop-j : goal.invariant-loop-j
invariant-loop-j l = (l.j ≤ l.k) × (length l.work ≡ length l.initial.work) × ((lent : List ℕ) → Sorted l.k l.size lent l.initial.work → Inserting l.k l.j l.size lent l.work)
