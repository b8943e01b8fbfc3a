-- BadgeSet::has meets its contract: badge u is bit u % 64 of word u / 64.
use mathlib.Core.Path.{sym, ap, ◌∙◌}
use mathlib.Core.List.{List, [], ◌∷◌}
use Prim.Native.Nat.{ℕ, ◌/◌, ◌%◌}
use native.Mathlib.Omega.{arith}
use lib.Dec.{eqb}
use lib.ListN.{get_or}
use Rattle.sets.specs.Sets.{bit}
use Rattle.sets.specs.Words.{word_bits}
use Rattle.sets.proofs.Bits.{bit_test}
use Rattle.sets.proofs.Words.{words-bit}
use Rattle.sets.proofs.Pairs.{two-words, two-words-of}
use Rattle.sets.proofs.BadgeSet.has.Goals as goal

pub returns : goal.returns
returns c =
    let a = c.args in
    let l = a.self.low in
    let h = a.self.high in
    ap (λ (x : ℕ). eqb x 1)
    (bit_test c.word.result (a.u % word_bits)
    ∙ ap (λ (x : ℕ). bit x (a.u % word_bits)) (c.word.ensures ∙ ap (λ (ws : List ℕ). get_or ws (a.u / word_bits) 0) (two-words-of l h (omega arith) (omega arith)))
    ∙ sym (words-bit (l ∷ h ∷ []) a.u (two-words (omega arith) (omega arith))))
