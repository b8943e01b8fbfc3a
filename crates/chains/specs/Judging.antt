-- What the trace judges before 9, and the exact answer in bytes.
use Rattle.std.specs.Prelude.{Bool, List, ℕ, ◌<◌, ltb}
use Rattle.sets.specs.Bools.{◌and◌, isnt}
use Rattle.records.specs.Outcomes.{Outcome, success, refuse_if, and_then}
use Rattle.days.specs.Days.{LentDay}
use Rattle.days.specs.Calls.{check_of}
use Rattle.chains.specs.Sweep.{trace_bytes}

-- an index badge and a start tick of a day of n badges and T ticks, as a test and, of a lent day, as a fact
unfoldable pub is_start : ℕ → ℕ → ℕ → ℕ → Bool
is_start n T index s = ltb index n and ltb s T

pub record StartOfDay (n T : ℕ) (ws : List ℕ) (index s : ℕ) : Type 0 where
  pub lent : LentDay n T ws
  pub badge : index < n
  pub tick : s < T

-- they are judged, and then the bytes are worked out. "22, index of n or more or s of T or more."
unfoldable pub start_judged : ℕ → ℕ → List ℕ → ℕ → ℕ → Outcome (List ℕ)
start_judged n T ws index s = refuse_if (isnt (is_start n T index s)) 22 0 (success (trace_bytes n T ws index s))

-- "Calls on words: 10, 8, 11 first"; 22 "after 11 and before 9"
unfoldable pub trace_judged : ℕ → ℕ → List ℕ → ℕ → ℕ → Outcome (List ℕ)
trace_judged n T ws index s = and_then (check_of n T ws) (λ x. start_judged n T ws index s)
