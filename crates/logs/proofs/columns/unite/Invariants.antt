-- unite meets its contract: the columns of the badges that are no longer to come have the bits, and all others are as they were.
use mathlib.Core.Path.{◌≡◌}
use Prim.Native.Nat.{◌^◌, ◌<◌}
use lib.ListN.{get_or}
use Rattle.sets.specs.Sets.{Sub, union, difference}
use Rattle.sets.specs.Members.{capacity}
use Rattle.sets.specs.Tables.{tabulate, piecewise}
use Rattle.sets.specs.Words.{word_bits, in_word}
use Rattle.logs.proofs.columns.unite.Given as goal

abbrev pub invariant-loop-place : goal.invariant-loop-place
invariant-loop-place l =
    let s = in_word l.i l.fn.word in
    let left = in_word l.i l.place-iterator.word in
    (l.place-iterator.word < 2 ^ word_bits) × Sub left s
    × (l.columns ≡ tabulate capacity (piecewise (difference s left) (λ v. union (get_or l.fn.columns v 0) l.bits) (λ v. get_or l.fn.columns v 0)))
