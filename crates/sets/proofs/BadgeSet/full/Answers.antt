-- BadgeSet::full meets its contract: its words are those of the set of all badges below n.
use mathlib.Core.Path.{◌≡◌}
use mathlib.Core.List.{[], ◌∷◌}
use Prim.Native.Nat.{ℕ, ◌-◌, min}
use native.Mathlib.Omega.{arith}
use Rattle.sets.specs.Sets.{set_of, full}
use Rattle.sets.specs.Words.{word_bits, from_words}
use Rattle.sets.specs.Members.{capacity}
use Rattle.sets.proofs.WordByWord.{full_words, words-full}
use Rattle.sets.proofs.BadgeSet.full.Goals as goal

-- two words that are all badges below n of the first 64, and of the next 64
both : (n l h : ℕ) → l ≡ full (min n word_bits) → h ≡ full (min (n - word_bits) word_bits) → from_words (l ∷ h ∷ []) ≡ full (min n capacity)
unfolding full_words
both n l h p q = rw (p, q) (words-full 2 n)

pub returns-then-n-le-WORD_BITS : goal.returns-then-n-le-WORD_BITS
unfolding full set_of
returns-then-n-le-WORD_BITS c =
    let n = c.args.n in
    let e : min (n - word_bits) word_bits ≡ 0 = omega arith in
    both n _ 0 c.full_word.ensures (rw e)

pub returns : goal.returns
unfolding full set_of
returns c =
    let n = c.args.n in
    let e : min n word_bits ≡ word_bits = omega arith in
    both n _ _ (rw e) c.full_word-2.ensures
