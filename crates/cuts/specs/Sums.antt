-- How the first of the best cuttings is found: the greatest sums from each tick on, by the number of cuts that are left, and the first ends that
-- attain them. (Standard term: dynamic programming over segmentations.)
use Rattle.std.specs.Prelude.{true, false, List, [], ◌∷◌, ◌++◌, ℕ, zero, suc, ◌+◌, ◌-◌, ◌*◌, leb, ltb, get_or, replicate}
use Rattle.sets.specs.Bools.{◌and◌}

-- of the numbers t, t + 1, .. t + m the first at which g is greatest
unfoldable pub first_greatest : (ℕ → ℕ) → ℕ → ℕ → ℕ
first_greatest g t zero = t
first_greatest g t (suc m) =
    let r : ℕ = first_greatest g t m in
    elim (ltb (g r) (g (t + suc m))) [ true ↦ t + suc m | false ↦ r ]

-- the sum where a run from t to e is followed by runs of a given sum, by the tick at which they start
unfoldable pub sum_with : (ℕ → ℕ → ℕ) → (ℕ → ℕ) → ℕ → ℕ → ℕ
sum_with score rest t e = score t e + rest (suc e)

-- the tick that the last run ends with
abbrev pub last_tick : ℕ → ℕ
last_tick T = T - 1

-- a run from t that c + 1 runs are to follow, up to tick T - 1, can end at t or at one of so many ticks after it
abbrev pub later_ends : ℕ → ℕ → ℕ → ℕ
later_ends T c t = T - suc (suc c) - t

-- the greatest sum over the ticks t to T - 1 with c cuts, that is in c + 1 runs
unfoldable pub best_sum : (ℕ → ℕ → ℕ) → ℕ → ℕ → ℕ → ℕ
best_sum score T zero t = score t (last_tick T)
best_sum score T (suc c) t =
    let g : ℕ → ℕ = sum_with score (best_sum score T c) t in
    g (first_greatest g t (later_ends T c t))

-- with c + 1 cuts, the first end of a run from t that attains the greatest sum
unfoldable pub end_after : (ℕ → ℕ → ℕ) → ℕ → ℕ → ℕ → ℕ
end_after score T c t = first_greatest (sum_with score (best_sum score T c) t) t (later_ends T c t)

-- the ends so found from tick t on, with c cuts
unfoldable pub ends_from : (ℕ → ℕ → ℕ) → ℕ → ℕ → ℕ → List ℕ
ends_from score T zero t = last_tick T ∷ []
ends_from score T (suc c) t =
    let e : ℕ = end_after score T c t in
    e ∷ ends_from score T c (suc e)

-- the ends so found for the ticks 0 to T - 1 in h runs: the first of the best cuttings, which is a law (best-ends)
unfoldable pub best_ends : (ℕ → ℕ → ℕ) → ℕ → ℕ → List ℕ
best_ends score T zero = []
best_ends score T (suc c) = ends_from score T c 0

-- a run's score in a table of 96 columns, with a row for each first tick and a column for each last tick
unfoldable pub table_score : List ℕ → ℕ → ℕ → ℕ
table_score scores first last = get_or scores (first * 96 + last) 0

-- the ends of the first of the best cuttings in 96 places, with zeros after them; zeros alone where T is above 96, or h is 0 or above T
unfoldable pub ends_of : List ℕ → ℕ → ℕ → List ℕ
ends_of scores T h =
    elim (leb 1 h and leb h T and leb T 96) [
      | true ↦ best_ends (table_score scores) T h ++ replicate (96 - h) 0
      | false ↦ replicate 96 0
    ]
