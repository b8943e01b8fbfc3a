-- `peeling::look_at_word` meets its contract. Its loop's invariant: the word's badges that are no longer to come have had their turn.
use Prim.Native.Nat.{◌*◌, ◌^◌, ◌<◌}
use Rattle.sets.specs.Sets.{difference, full}
use Rattle.sets.specs.Words.{word_bits}
use Rattle.sets.specs.Members.{members}
use Rattle.sets.proofs.InWord.{unseen_at}
use Rattle.cores.specs.Rows.{graph}
use Rattle.cores.specs.Passes.{Passing}
use Rattle.cores.proofs.peeling.look_at_word.Given as goal

abbrev pub invariant-loop-place : goal.invariant-loop-place
invariant-loop-place l =
    (l.place-iterator.word < 2 ^ word_bits)
    × (Passing (graph l.rows) l.order (members l.fn.s) (members l.fn.start.members) l.fn.start.least (difference (members l.fn.s) (full (l.i * word_bits)))
    → Passing (graph l.rows) l.order (members l.fn.s) (members l.kept.members) l.kept.least (unseen_at (members l.fn.s) l.i l.place-iterator.word))
