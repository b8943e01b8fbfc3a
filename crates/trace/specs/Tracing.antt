-- What the trace promises, over any call that takes n, T, words, an index, a start tick and a buffer, and any way to make the bytes of a trace.
use Rattle.std.specs.Prelude.{List, ◌++◌, ◌≡◌, ℕ, ◌+◌, ◌≤◌, ◌<◌, length, take, drop}
use Rattle.records.specs.Outcomes.{Outcome, refused, success}
use Rattle.days.specs.Days.{LentDay}
use Rattle.days.specs.Calls.{check_of}
use Rattle.logs.specs.Buffers.{Delivered}
use Rattle.chains.specs.Chains.{Contact}
use Rattle.chains.specs.Traces.{IsTrace}
use Rattle.chains.specs.Judging.{StartOfDay}

-- A call that traces every exposure:
pub record Traces (call : ℕ → ℕ → List ℕ → ℕ → ℕ → List ℕ → Delivered) (bytes : ℕ → ℕ → List ℕ → ℕ → ℕ → List ℕ) : Type 0 where
  -- the bytes are the trace over the day's contacts
  pub stated : (n T : ℕ) (ws : List ℕ) (index s : ℕ) → StartOfDay n T ws index s → IsTrace (Contact n T ws) n index s (bytes n T ws index s)
  -- lent 2n bytes or more, the call succeeds and writes them; with fewer it is refused by 9
  pub succeeds : (n T : ℕ) (ws : List ℕ) (index s : ℕ) (buffer : List ℕ) → StartOfDay n T ws index s → n + n ≤ length buffer
      → call n T ws index s buffer ≡ record { answer = success (n + n); buffer = bytes n T ws index s ++ drop (n + n) buffer }
  pub measures : (n T : ℕ) (ws : List ℕ) (index s : ℕ) (buffer : List ℕ) → StartOfDay n T ws index s → length buffer < n + n
      → call n T ws index s buffer ≡ record { answer = refused 9 0; buffer = buffer }
  -- an index of n or more, or a start tick of T or more, is refused by 22, whatever buffer was lent
  pub judges : (n T : ℕ) (ws : List ℕ) (index s : ℕ) (buffer : List ℕ) → LentDay n T ws → ((index < n) × (s < T) → ⊥)
      → call n T ws index s buffer ≡ record { answer = refused 22 0; buffer = buffer }
  -- and words that the check refuses, by its refusal, whatever else was handed over
  pub checks : (n T : ℕ) (ws : List ℕ) (index s : ℕ) (buffer : List ℕ) (number offset : ℕ) → check_of n T ws ≡ refused number offset
      → call n T ws index s buffer ≡ record { answer = refused number offset; buffer = buffer }

-- what holds of the buffer that a trace leaves, whatever was lent: on success its first bytes are the trace over the day's contacts
pub record Traced (n T : ℕ) (ws : List ℕ) (index s : ℕ) (answer : Outcome ℕ) (buffer : List ℕ) : Type 0 where
  pub trace : (size : ℕ) → answer ≡ success size → IsTrace (Contact n T ws) n index s (take size buffer)
