-- Laws of a walk over the badges of one word, smallest first, as the program makes it.
use mathlib.Core.Path.{◌≡◌, sym, ap, ◌∙◌}
use Prim.Native.Nat.{ℕ, ◌+◌, ◌-◌, ◌*◌, ◌^◌, ◌<◌}
use native.Mathlib.Omega.{arith}
use Rattle.std.specs.Int.Bits.{bit_and}
use Rattle.std.specs.Prelude.{Some}
use Rattle.sets.specs.Sets.{difference, only, TakesSmallest}
use Rattle.sets.specs.Words.{word_bits, in_word}
use Rattle.sets.proofs.Smallest.{without-smallest}
use Rattle.sets.proofs.InWord.{word-rest}

-- what is left of a word on a walk over it, after the turn of its smallest badge
pub word-without : (i w b : ℕ) {rest : ℕ} → w < 2 ^ word_bits → TakesSmallest word_bits w (Some b) rest → in_word i rest ≡ difference (in_word i w) (only (i * word_bits + b))
word-without i w b {rest} l t =
    let f : w ≡ 0 → ⊥ = λ e. omega arith in
    let r : rest ≡ bit_and w (w - 1) = t.2 ∙ ap (λ (u : ℕ). difference w (only u)) t.1 ∙ sym (without-smallest word_bits w l f) in
    ap (in_word i) r ∙ word-rest i w b l f t.1
