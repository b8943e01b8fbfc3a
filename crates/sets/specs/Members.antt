-- What a BadgeSet of the program stands for. Contracts name `members` and never a field, so a wider set changes this file alone.
use Rattle.std.specs.Prelude.{true, false, [], ◌∷◌, ℕ, ◌*◌, ltb}
use Rattle.sets.specs.declared.BadgeSet.{BadgeSet}
use Rattle.sets.specs.Sets.{union, only}
use Rattle.sets.specs.Words.{word_bits, set_words, from_words}

-- a set holds badges below this number
abbrev pub capacity : ℕ
capacity = set_words * word_bits

-- the words of a row for each badge that a set can hold
abbrev pub row_words : ℕ
row_words = capacity * set_words

-- "A badge set becomes two 64-bit words, lower badges first": the set that two words hold
abbrev pub set_of_two : ℕ → ℕ → ℕ
set_of_two low high = from_words (low ∷ high ∷ [])

-- the badges of a set, as a number
abbrev pub members : BadgeSet → ℕ
members s = set_of_two s.low s.high

-- s with badge u; a badge that no set can hold changes nothing
unfoldable pub insert : ℕ → ℕ → ℕ
insert s u = elim (ltb u capacity) [ true ↦ union s (only u) | false ↦ s ]
