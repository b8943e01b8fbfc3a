-- `peeling::pass` meets its contract. What is left holds every cohesive subset of the set; while nobody is dropped, the members no
-- longer unseen have neighbours enough, and the smallest of their degrees is at hand. Before a turn those from word i on are unseen.
use Prim.Native.Nat.{◌*◌, ◌≤◌}
use Rattle.sets.specs.Sets.{difference, full}
use Rattle.sets.specs.Words.{word_bits, set_words}
use Rattle.sets.specs.Members.{members}
use Rattle.cores.specs.Rows.{graph}
use Rattle.cores.specs.Passes.{Passing}
use Rattle.cores.proofs.peeling.pass.Given as goal

abbrev pub invariant-loop-i : goal.invariant-loop-i
invariant-loop-i l =
    (l.i ≤ set_words) × Passing (graph l.rows) l.order (members l.s) (members l.kept.members) l.kept.least (difference (members l.s) (full (l.i * word_bits)))
