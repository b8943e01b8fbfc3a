-- Document 01's day D1 in words, on which substitutes are tried, and which the table of cases has.
use Rattle.std.specs.Prelude.{List, [], ◌∷◌, ◌++◌, ℕ, ◌+◌, ◌^◌}
use Rattle.sets.specs.Words.{words_of}

-- the set of these badges, each named once: badge u is bit u
unfoldable pub badges : List ℕ → ℕ
badges [] = 0
badges (u ∷ us) = 2 ^ u + badges us

-- "D1: n 4, T 3, contacts 0–1, 0–2 and 1–2 in ticks 0 to 1, and 2–3 in ticks 0 to 2": one word for each badge, tick after tick
unfoldable pub d1_words : List ℕ
d1_words = words_of (
    (badges (1 ∷ 2 ∷ []) ∷ badges (0 ∷ 2 ∷ []) ∷ badges (0 ∷ 1 ∷ 3 ∷ []) ∷ badges (2 ∷ []) ∷ [])
    ++ (badges (1 ∷ 2 ∷ []) ∷ badges (0 ∷ 2 ∷ []) ∷ badges (0 ∷ 1 ∷ 3 ∷ []) ∷ badges (2 ∷ []) ∷ [])
    ++ (badges [] ∷ badges [] ∷ badges (3 ∷ []) ∷ badges (2 ∷ []) ∷ []))
