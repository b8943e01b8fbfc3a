-- `fill` meets its contract: at each turn the words hold the records before the place reached, and the bytes from there on are the others.
use mathlib.Core.Path.{◌≡◌}
use Prim.Native.Nat.{◌-◌}
use lib.ListN.{length, drop}
use Rattle.records.specs.Limits.{words_for}
use Rattle.days.proofs.Filled.{Filling}
use Rattle.days.proofs.day.fill.Given as goal

abbrev pub invariant-loop-at : goal.invariant-loop-at
invariant-loop-at l = (length l.words ≡ length l.initial.words) × Filling l.log l.size.badges l.size.ticks l.at (drop (words_for l.size.badges l.size.ticks) l.initial.words) l.words

abbrev pub decreases-loop-at : goal.decreases-loop-at
decreases-loop-at l = length l.log - l.at
