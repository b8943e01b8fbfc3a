-- What the private functions' contracts cite: the greatest of a function's values over a range, the greatest score of each row, and the table of
-- greatest sums, with 96 columns, row c for c cuts and column t for first tick t.
use Rattle.std.specs.Prelude.{◌≡◌, List, ℕ, suc, ◌+◌, ◌*◌, ◌≤◌, ◌<◌, length, get_or}
use Rattle.cuts.specs.Sums.{sum_with, best_sum, table_score}

-- none of g's values at t to stop - 1 is above b
pub record NoneAbove (g : ℕ → ℕ) (t stop b : ℕ) : Type 0 where
  pub at : (e : ℕ) → t ≤ e → e < stop → g e ≤ b

-- s is the greatest of g's values at t to stop - 1, and 0 where there are none. (Standard term: their least upper bound.)
pub record GreatestOf (g : ℕ → ℕ) (t stop s : ℕ) : Type 0 where
  pub most : NoneAbove g t stop s
  pub least : (b : ℕ) → NoneAbove g t stop b → s ≤ b

-- below first tick k, the list has the greatest score of the runs from each first tick, up to tick T - 1
pub record RowMaxima (scores : List ℕ) (T k : ℕ) (maxima : List ℕ) : Type 0 where
  pub size : length maxima ≡ 96
  pub at : (t : ℕ) → t < k → GreatestOf (table_score scores t) t T (get_or maxima t 0)

-- row c of the table
unfoldable pub row_sum : List ℕ → ℕ → ℕ → ℕ
row_sum sums c t = get_or sums (c * 96 + t) 0

-- what row c has for the runs after an end e
abbrev pub row_after : List ℕ → ℕ → ℕ → ℕ
row_after sums c e = row_sum sums c (suc e)

-- the sum where a run from t to e is followed by runs of the sum that row c has
abbrev pub run_sum : List ℕ → List ℕ → ℕ → ℕ → ℕ → ℕ
run_sum scores sums c t e = sum_with (table_score scores) (row_sum sums c) t e

-- row c has at most 255 for each of its c + 1 runs, after every end from t to stop - 1
pub record SmallAfter (sums : List ℕ) (c t stop : ℕ) : Type 0 where
  pub small : NoneAbove (row_after sums c) t stop (255 * suc c)

-- s is the greatest sum over the ends t to stop - 1, and at most 255 for each of the c + 2 runs
pub record IsGreatestSum (scores sums : List ℕ) (c t stop s : ℕ) : Type 0 where
  pub sum : GreatestOf (run_sum scores sums c t) t stop s
  pub small : s ≤ 255 * suc (suc c)

-- the table has the greatest sum for c cuts from t on, which is at most 255 for each of the c + 1 runs
pub record Entry (scores : List ℕ) (T : ℕ) (sums : List ℕ) (c t : ℕ) : Type 0 where
  pub best : row_sum sums c t ≡ best_sum (table_score scores) T c t
  pub small : row_sum sums c t ≤ 255 * suc c

-- the rows below k have them, from every tick t that a cutting into h runs can reach with c cuts left: the h - c - 1 runs before t have a tick or
-- more each, and c + 1 runs fit from t on
pub record Filled (scores : List ℕ) (T h k : ℕ) (sums : List ℕ) : Type 0 where
  pub size : length sums ≡ 9216
  pub at : (c t : ℕ) → c < k → h ≤ suc (t + c) → t + c < T → Entry scores T sums c t
