-- What the functions that score the runs of a day and encode its plan promise.
use Rattle.std.specs.Prelude.{List, ◌++◌, ◌≡◌, ℕ, ◌+◌, ◌*◌, ◌≤◌, ◌<◌, length, take, drop}
use Rattle.records.specs.Limits.{max_ticks}
use Rattle.cuts.specs.Cuttings.{Cutting}
use Rattle.cuts.specs.Sums.{table_score}
use Rattle.spans.specs.Plans.{score_on, parts_from}
use Rattle.groups.specs.declared.lines.Found.{Found}
use Rattle.groups.specs.Lines.{at}
use Rattle.spans.specs.Encoding.{form_of, core_bytes, plan_bytes}

-- sizes that let a line of scores be put into a table
pub record LinePlaces (T first : ℕ) (scores : List ℕ) : Type 0 where
  pub short : T ≤ max_ticks
  pub inside : first < T
  pub scores_size : length scores ≡ max_ticks * max_ticks

-- the scores of the runs that start with a tick stand in its row of a table, and the rows before it stay
pub record LinePut (T first : ℕ) (line : List Found) (scores scores' : List ℕ) : Type 0 where
  pub size : length scores' ≡ max_ticks * max_ticks
  pub here : (last : ℕ) → first ≤ last → last < T → table_score scores' first last ≡ (at line last).order
  pub before : (f l : ℕ) → f < first → l < max_ticks → table_score scores' f l ≡ table_score scores f l

-- a table with the scores of all runs that start before a tick
pub record Scores (n T : ℕ) (ws : List ℕ) (base query k : ℕ) (scores : List ℕ) : Type 0 where
  pub size : length scores ≡ max_ticks * max_ticks
  pub score : (first last : ℕ) → first < k → first ≤ last → last < T → table_score scores first last ≡ score_on n ws base query first last

-- the bytes of a plan with sets of w bytes: those of its end, of its header and of h parts, which are laid out alike
abbrev pub plan_size : ℕ → ℕ → ℕ
plan_size w h = 6 + core_bytes w + core_bytes w * h

-- what a plan is encoded from: the scores of a day's runs for a query, and the ends of a cutting into h runs
pub record PlanParts (n T : ℕ) (ws : List ℕ) (base query h : ℕ) (ends scores buffer : List ℕ) : Type 0 where
  pub scored : Scores n T ws base query T scores
  pub cutting : Cutting T h (take h ends)
  pub ends_size : length ends ≡ max_ticks
  pub room : plan_size (form_of n).set_bytes h ≤ length buffer

-- The plan is laid over the first bytes of a buffer, and the bytes after it are as they were.
pub record EncodesPlan (n T : ℕ) (ws : List ℕ) (base query h : ℕ) (ends buffer buffer' : List ℕ) : Type 0 where
  pub bytes : buffer' ≡ plan_bytes n T h query (parts_from n ws base query 0 (take h ends)) ++ drop (plan_size (form_of n).set_bytes h) buffer
