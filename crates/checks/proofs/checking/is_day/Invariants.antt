-- `checking::is_day` meets its contract. The ticks passed are those of a day, and the rows known are a tick's; in the tick at hand, those of the badges passed
-- are the tick's own; on the walk over what changes in a row, they would be a tick's if that row had the changes that are seen. Those unseen are
-- the badges that are still to come.
use mathlib.Core.Bool.{true}
use mathlib.Core.Path.{◌≡◌}
use Prim.Native.Nat.{ℕ, ◌^◌, ◌≤◌, ◌<◌}
use lib.ListN.{length}
use Rattle.sets.specs.Sets.{symmetric_difference}
use Rattle.sets.specs.Words.{word_bits, set_at}
use Rattle.sets.specs.Members.{row_words}
use Rattle.days.specs.Days.{neighbours, IsTick}
use Rattle.checks.specs.Scan.{SameUpper, Passed}
use Rattle.checks.proofs.Walk.{Walk}
use Rattle.checks.proofs.checking.is_day.Given as goal

abbrev pub invariant-loop-v : goal.invariant-loop-v
invariant-loop-v l =
    (l.good ≡ true) × (length l.known ≡ row_words) × ((w : ℕ) → w < l.u → set_at l.known w ≡ set_at l.tick w)
    × (l.v-iterator.word < 2 ^ word_bits) × Walk l.n l.u (set_at l.tick l.u) (set_at l.known) l.v-iterator.word
    × ((w : ℕ) → w < l.n → SameUpper (set_at l.known w) (set_at l.tick w)) × (symmetric_difference (set_at l.known l.u) l.word ≡ set_at l.tick l.u)

abbrev pub invariant-loop-u : goal.invariant-loop-u
invariant-loop-u l =
    (l.good ≡ true) × Passed l.n l.n l.tick l.known × ((w : ℕ) → w < l.u → set_at l.known w ≡ set_at l.tick w) × (l.u ≤ l.n)

abbrev pub invariant-scan : goal.invariant-scan
invariant-scan l =
    (l.good ≡ true) × (length l.known ≡ row_words) × ((k : ℕ) → k < l.t → IsTick l.n (neighbours l.n l.words k)) × (l.t ≤ l.ticks) × IsTick l.n (set_at l.known)
