-- `pass_word` meets its contract. Its loop's invariant: of the unseen badges, those of the word have had their turn that are no longer left of it.
use mathlib.Core.List.{List}
use mathlib.Core.Path.{◌≡◌}
use Prim.Native.Nat.{ℕ, ◌+◌, ◌^◌, ◌<◌}
use lib.ListN.{length}
use Rattle.sets.specs.Sets.{Sub, difference}
use Rattle.sets.specs.Members.{members}
use Rattle.sets.specs.Words.{word_bits, in_word, set_at}
use Rattle.trace.specs.Steps.{Turned}
use Rattle.trace.proofs.sweeping.pass_word.Given as goal

abbrev pub invariant-loop-place : goal.invariant-loop-place
invariant-loop-place l =
    (length l.trace ≡ l.n + l.n) × (l.place-iterator.word < 2 ^ word_bits) × Sub (in_word l.i l.place-iterator.word) (in_word l.i l.fn.word)
    × ((all : ℕ) (first : List ℕ) → Sub (in_word l.i l.fn.word) all
    → Turned l.n (λ u. set_at l.fn.words (l.base + u)) l.t (members l.passing) all (members l.fn.before) first l.fn.trace
    → Turned l.n (λ u. set_at l.fn.words (l.base + u)) l.t (members l.passing) (difference all (difference (in_word l.i l.fn.word) (in_word l.i l.place-iterator.word))) (members l.reached) first l.trace)
