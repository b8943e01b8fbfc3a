-- A day on which several cuttings have the greatest sum, and on which it matters from which end their ends are compared.
use Rattle.std.specs.Prelude.{List, [], ◌∷◌, ◌++◌, ℕ}
use Rattle.sets.specs.Words.{words_of}
use Rattle.promises.specs.D1.{badges}

-- n 3, T 5: 0–1 in ticks 0 to 3, 0–2 and 1–2 in tick 2, and 0–2 in tick 4
unfoldable pub ties_words : List ℕ
ties_words = words_of (
    (badges (1 ∷ []) ∷ badges (0 ∷ []) ∷ badges [] ∷ [])
    ++ (badges (1 ∷ []) ∷ badges (0 ∷ []) ∷ badges [] ∷ [])
    ++ (badges (1 ∷ 2 ∷ []) ∷ badges (0 ∷ 2 ∷ []) ∷ badges (0 ∷ 1 ∷ []) ∷ [])
    ++ (badges (1 ∷ []) ∷ badges (0 ∷ []) ∷ badges [] ∷ [])
    ++ (badges (2 ∷ []) ∷ badges [] ∷ badges (0 ∷ []) ∷ []))
