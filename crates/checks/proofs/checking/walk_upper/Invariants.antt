-- `walk_upper` meets its contract: the walk over the second word has the badges that are still to come for those unseen.
use mathlib.Core.Path.{◌≡◌}
use Prim.Native.Nat.{ℕ, ◌^◌, ◌≤◌, ◌<◌}
use lib.ListN.{length}
use Rattle.sets.specs.Sets.{symmetric_difference}
use Rattle.sets.specs.Words.{word_bits, in_word, set_at}
use Rattle.sets.specs.Members.{capacity, row_words}
use Rattle.checks.specs.Scan.{Passed}
use Rattle.checks.proofs.Walk.{Walk}
use Rattle.checks.proofs.checking.walk_upper.Given as goal

abbrev pub invariant-loop-place : goal.invariant-loop-place
invariant-loop-place l =
    (length l.known ≡ row_words) × (l.place-iterator.word < 2 ^ word_bits) × ((w : ℕ) → w ≤ l.u → set_at l.known w ≡ set_at l.fn.known w)
    × ((n : ℕ) → n ≤ capacity → l.u < n → Passed n l.u l.tick l.fn.known → Walk n l.u (symmetric_difference (set_at l.fn.known l.u) (in_word 1 l.word)) (set_at l.known) (in_word 1 l.place-iterator.word))
