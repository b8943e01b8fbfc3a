-- The limits and sizes of document 01, with the badges and words of request Nine, each named once.
use Rattle.std.specs.Prelude.{Bool, ℕ, ◌*◌, leb}
use Rattle.sets.specs.Bools.{◌and◌}
use Rattle.sets.specs.Words.{set_words}

-- the most badges, ticks and contact records
abbrev pub max_badges : ℕ
max_badges = 128

abbrev pub max_ticks : ℕ
max_ticks = 96

abbrev pub max_contacts : ℕ
max_contacts = 8000

-- the bytes of the longest log: a header, 8,000 contacts and an end
abbrev pub max_log_bytes : ℕ
max_log_bytes = 48010

-- "n rises to 128"; "T from 1 to 96"
unfoldable pub within_limits : ℕ → ℕ → Bool
within_limits n T = leb 1 n and leb n max_badges and leb 1 T and leb T max_ticks

-- how many words a day of n badges and T ticks takes: those of a set for each badge and tick
abbrev pub words_for : ℕ → ℕ → ℕ
words_for n T = T * n * set_words

-- the words of the largest day, 128 badges and 96 ticks
abbrev pub max_words : ℕ
max_words = 24576
