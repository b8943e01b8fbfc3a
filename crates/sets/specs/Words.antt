-- A set of badges in words of 64 bits, lower badges first, and sets that stand one after the other in lent words. How many words a set has is said here
-- alone, by `set_words`; whatever else speaks of words names these definitions.
use Rattle.std.specs.Prelude.{true, false, List, [], ◌∷◌, ◌++◌, ℕ, zero, suc, ◌+◌, ◌*◌, ◌/◌, ◌%◌, ◌^◌, ◌<◌, ltb, length, get_or, take, drop}
use Rattle.std.proofs.lemmas.List.Edits.{sets}

-- the bits of a word
abbrev pub word_bits : ℕ
word_bits = 64

-- a list of words: every element is below 2 ^ 64
pub record Words (ws : List ℕ) : Type 0 where
  pub at : (i : ℕ) → i < length ws → get_or ws i 0 < 2 ^ word_bits

-- the set that words hold: badge u is bit u % 64 of word u / 64
unfoldable pub from_words : List ℕ → ℕ
from_words [] = 0
from_words (w ∷ ws) = from_words ws * 2 ^ word_bits + w

-- the words that hold a set: so many of 64 badges each, and a last one with the others
unfoldable pub to_words : ℕ → ℕ → List ℕ
to_words zero s = s ∷ []
to_words (suc k) s = s % 2 ^ word_bits ∷ to_words k (s / 2 ^ word_bits)

-- the set of the badges that a word has as word i of a set
unfoldable pub in_word : ℕ → ℕ → ℕ
in_word i w = w * 2 ^ (i * word_bits)

-- how many words of a set come before its last, and how many it has
abbrev pub lower_words : ℕ
lower_words = 1

abbrev pub set_words : ℕ
set_words = suc lower_words

-- how many whole sets stand in words
abbrev pub places : List ℕ → ℕ
places ws = length ws / set_words

-- the words of the set at place i
abbrev pub words_at : List ℕ → ℕ → List ℕ
words_at ws i = take set_words (drop (i * set_words) ws)

-- the set at place i; the empty set where the words do not reach that far
unfoldable pub set_at : List ℕ → ℕ → ℕ
set_at ws i = elim (ltb i (places ws)) [ true ↦ from_words (words_at ws i) | false ↦ 0 ]

-- the words with set s at place i; the same words where they do not reach that far
unfoldable pub put_set : List ℕ → ℕ → ℕ → List ℕ
put_set ws i s = elim (ltb i (places ws)) [ true ↦ sets ws (i * set_words) (to_words lower_words s) | false ↦ ws ]

-- the words that hold sets, one after the other
unfoldable pub words_of : List ℕ → List ℕ
words_of [] = []
words_of (s ∷ ss) = to_words lower_words s ++ words_of ss
