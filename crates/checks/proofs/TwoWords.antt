-- What changes in a row, by the two words of each.
use mathlib.Core.Path.{◌≡◌, refl, sym, ap₂, ◌∙◌}
use mathlib.Core.List.{List, [], ◌∷◌, zip_with}
use Prim.Native.Nat.{ℕ, ◌+◌, ◌*◌, ◌<◌}
use native.Mathlib.Omega.{arith}
use lib.Bits.{bit_xor}
use lib.ListN.{get_or}
use Rattle.sets.specs.Sets.{symmetric_difference}
use Rattle.sets.specs.Words.{Words, from_words, set_words, places}
use Rattle.sets.proofs.WordByWord.{words-symmetric-difference}
use Rattle.sets.proofs.Places.{set-at-two}
use Rattle.sets.proofs.Pairs.{two-words}
use Rattle.checks.specs.Changes.{change_at}

words-there : {ws : List ℕ} {u : ℕ} → Words ws → u < places ws → Words (get_or ws (u * set_words) 0 ∷ get_or ws (u * set_words + 1) 0 ∷ [])
words-there {u = u} w l = two-words (w.at (u * set_words) (omega arith)) (w.at (u * set_words + 1) (omega arith))

-- what changes in a row, word by word
pub change-two : (tick before : List ℕ) (u : ℕ) → Words tick → Words before → u < places tick → u < places before
    → from_words (bit_xor (get_or tick (u * set_words) 0) (get_or before (u * set_words) 0) ∷ bit_xor (get_or tick (u * set_words + 1) 0) (get_or before (u * set_words + 1) 0) ∷ [])
    ≡ change_at tick before u
unfolding change_at symmetric_difference zip_with
change-two tick before u v w l k =
    sym (ap₂ symmetric_difference (set-at-two tick u l) (set-at-two before u k) ∙ words-symmetric-difference _ _ refl (words-there v l) (words-there w k))
