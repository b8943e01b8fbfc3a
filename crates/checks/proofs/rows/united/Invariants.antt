-- `united` meets its contract: after i turns the set is the union over 8 * i rows, and past those of half a word, or of a word, n is above them.
use Prim.Native.Nat.{◌*◌, ◌/◌, ◌≤◌, ◌<◌}
use Rattle.sets.specs.Members.{capacity, members}
use Rattle.sets.specs.Words.{word_bits, set_at}
use Rattle.checks.specs.Changes.{UnionOver}
use Rattle.checks.proofs.rows.united.Given as goal

abbrev pub invariant-loop-i : goal.invariant-loop-i
invariant-loop-i l = (8 * l.i ≤ capacity) × UnionOver (set_at l.rows) 0 (8 * l.i) (members l.all) × (word_bits / 2 < 8 * l.i → word_bits / 2 < l.n) × (word_bits < 8 * l.i → word_bits < l.n)
