-- The tidy form of a day (the canonical form of a log): "A tidy log has the smaller badge first in each CT, one CT for each unbroken
-- run of ticks of a pair (touching runs joined), ordered by smaller badge, larger badge, first tick." First in words, then as a list.
use Rattle.std.specs.Prelude.{Bool, true, false, List, [], ◌∷◌, ◌↔◌, ◌≡◌, ℕ, zero, suc, ◌≤◌, ◌<◌, ltb}
use Rattle.sets.specs.Bools.{◌and◌, isnt}
use Rattle.sets.specs.Tables.{concat_below, keep_if, Pairwise}
use Rattle.records.specs.declared.record.Record.{Record}
use Rattle.records.specs.declared.record.Record.TheVariants.{Header, Contact, End}
use Rattle.records.specs.Records.{encode_all}
use Rattle.records.specs.Logs.{Mem, log_records}

-- The ticks from first to last are an unbroken run of a pair, of T ticks: the pair meets in each of them, and neither in the tick
-- before nor in the tick after.
pub record Run (T : ℕ) (meet : ℕ → Type 0) (first last : ℕ) : Type 0 where
  pub rising : first ≤ last
  pub inside : last < T
  pub each : (t : ℕ) → first ≤ t → t ≤ last → meet t
  pub before : (t : ℕ) → suc t ≡ first → meet t → ⊥
  pub after : suc last < T → meet (suc last) → ⊥

-- a contact record of an unbroken run of two of n badges, the smaller one first; meet t u v says that u and v meet in tick t
abbrev pub IsRun : ℕ → ℕ → (ℕ → ℕ → ℕ → Type 0) → Record → Type 0
IsRun n T meet (Header m S) = ⊥
IsRun n T meet (Contact a b first last) = (a < b) × (b < n) × Run T (λ t. meet t a b) first last
IsRun n T meet (End count) = ⊥

-- the badges and the first tick of a contact record
abbrev pub smaller_of : Record → ℕ
smaller_of (Header n T) = 0
smaller_of (Contact a b first last) = a
smaller_of (End count) = 0

abbrev pub larger_of : Record → ℕ
larger_of (Header n T) = 0
larger_of (Contact a b first last) = b
larger_of (End count) = 0

abbrev pub first_of : Record → ℕ
first_of (Header n T) = 0
first_of (Contact a b first last) = first
first_of (End count) = 0

-- a record comes before another: by smaller badge, larger badge, first tick
pub data Before (c d : Record) : Type 0 where
  by_smaller : smaller_of c < smaller_of d → Before c d
  by_larger : smaller_of c ≡ smaller_of d → larger_of c < larger_of d → Before c d
  by_first : smaller_of c ≡ smaller_of d → larger_of c ≡ larger_of d → first_of c < first_of d → Before c d

-- the contact records of a tidy log: those of the unbroken runs, each once, in order: each comes before all that follow it
pub record IsTidy (n T : ℕ) (meet : ℕ → ℕ → ℕ → Type 0) (cts : List Record) : Type 0 where
  pub exactly : (c : Record) → Mem c cts ↔ IsRun n T meet c
  pub sorted : Pairwise Before cts

-- The same as a list that is worked out. The first tick of the unbroken run that leads up to tick t:
unfoldable pub run_start : (ℕ → Bool) → ℕ → ℕ
run_start p zero = 0
run_start p (suc t) = elim (p t) [ true ↦ run_start p t | false ↦ suc t ]

-- tick t, of T, is the last of a run
unfoldable pub run_ends : ℕ → (ℕ → Bool) → ℕ → Bool
run_ends T p t = p t and isnt (ltb (suc t) T and p (suc t))

-- the run of u and v that ends with tick t, if one does; all runs of u and v
unfoldable pub run_at : ℕ → (ℕ → Bool) → ℕ → ℕ → ℕ → List Record
run_at T p u v t = keep_if (run_ends T p t) (Contact u v (run_start p t) t ∷ [])

unfoldable pub runs_of : ℕ → (ℕ → Bool) → ℕ → ℕ → List Record
runs_of T p u v = concat_below T (run_at T p u v)

-- the runs of u, as the smaller badge, and those of all n badges; r t u v says whether u and v are in contact in tick t
unfoldable pub row_runs : ℕ → ℕ → (ℕ → ℕ → ℕ → Bool) → ℕ → List Record
row_runs n T r u = concat_below n (λ v. keep_if (ltb u v) (runs_of T (λ t. r t u v) u v))

unfoldable pub tidy_contacts : ℕ → ℕ → (ℕ → ℕ → ℕ → Bool) → List Record
tidy_contacts n T r = concat_below n (row_runs n T r)

-- the tidy log of a day
unfoldable pub tidy_log : ℕ → ℕ → (ℕ → ℕ → ℕ → Bool) → List ℕ
tidy_log n T r = encode_all (log_records n T (tidy_contacts n T r))
