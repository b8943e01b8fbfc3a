-- `put_set` meets its contract: the two words of the set are stored at its place.
use mathlib.Core.Path.{refl, sym, ap, ◌∙◌}
use mathlib.Core.List.{[], ◌∷◌}
use Prim.Native.Nat.{ℕ, ◌*◌}
use native.Mathlib.Numerals.{add-one}
use native.Mathlib.Omega.{arith}
use lib.ListN.{set, length-set}
use lib.Seq.{sets}
use Rattle.sets.specs.Words.{lower_words, set_words}
use Rattle.sets.proofs.Words.{to-from-words}
use Rattle.sets.proofs.Places.{put_in, put-out}
use Rattle.sets.proofs.Pairs.{two-words}
use Rattle.sets.proofs.put_set.Goals as goal

pub bounds-words-at-then-i-words : goal.bounds-words-at-then-i-words
bounds-words-at-then-i-words c = let a = c.args in omega (arith, length-set a.words.now (a.i * 2) a.s.low)

pub returns-then-i-words : goal.returns-then-i-words
returns-then-i-words c =
    let a = c.args in
    let ws = a.words.now in
    let at = a.i * set_words in
    ap (λ (k : ℕ). set (set ws at a.s.low) k a.s.high) (add-one at)
    ∙ ap (sets ws at) (sym (to-from-words lower_words (a.s.low ∷ a.s.high ∷ []) refl (two-words (omega arith) (omega arith))))
    ∙ sym (put_in ws a.i _ c.if-i-words.true)

pub returns-else-i-words : goal.returns-else-i-words
returns-else-i-words c = let a = c.args in sym (put-out a.words.now a.i _ c.if-i-words.false)
