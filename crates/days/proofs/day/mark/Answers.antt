-- mark meets its contract: the badge's word of the set gets its bit.
use mathlib.Core.Path.{ap, ◌∙◌}
use Prim.Native.Nat.{ℕ, ◌+◌, ◌*◌, ◌/◌, ◌%◌}
use native.Mathlib.Omega.{arith}
use lib.Bits.{bit_or}
use lib.ListN.{get_or, set}
use Rattle.sets.specs.Words.{word_bits, Words, set_words}
use Rattle.sets.proofs.Bits.{one_shl}
use Rattle.sets.proofs.OneWord.{insert-word}
use Rattle.days.proofs.day.mark.Goals as goal

pub returns : goal.returns
returns c =
    let a = c.args in
    let ws = a.words.now in
    let at = a.i * set_words + a.u / word_bits in
    let fit : Words ws = record { at = λ i l. omega (arith, c.slice_known-1.given i) } in
    ap (λ (x : ℕ). set ws at (bit_or (get_or ws at 0) x)) (one_shl (a.u % word_bits) (omega arith)) ∙ insert-word ws a.i a.u fit c.requires.0 c.requires.1
