-- The trace of a log, and what a trace is held against: chains of other kinds, another source, and small days.
use Rattle.std.specs.Prelude.{List, [], ◌∷◌, ◌++◌, ◌≡◌, ℕ, ◌≤◌, ◌<◌, length}
use Rattle.sets.specs.Words.{words_of}
use Rattle.records.specs.declared.record.Record.{Record}
use Rattle.records.specs.Limits.{words_for}
use Rattle.records.specs.Logs.{IsLog, Met}
use Rattle.days.specs.Calls.{Read}
use Rattle.chains.specs.Chains.{Contact}
use Rattle.chains.specs.Traces.{never, tick_in, source_in, Other, PassesOn, IsTrace}
use Rattle.promises.specs.D1.{badges}

-- "The exposure trace .. starts from the same contacts": of every log, lent n×T words or more, the bytes that are made of the words that reading leaves are
-- the trace over the contacts that the log's records name, whatever words were lent.
abbrev pub TracesLogs : (List ℕ → List ℕ → Read) → (ℕ → ℕ → List ℕ → ℕ → ℕ → List ℕ) → Type 0
TracesLogs read bytes = (log lent : List ℕ) (n T : ℕ) (cts : List Record) (index s : ℕ) → IsLog log n T cts → words_for n T ≤ length lent → index < n → s < T
    → IsTrace (Met cts) n index s (bytes n T (read log lent).words index s)

-- ---- other ways to trace

-- A chain of another kind: its first contact is in a tick from which the index passes on, and each next one in a tick that may follow the tick before.
pub data ChainBy (From : ℕ → Type 0) (Follows : ℕ → ℕ → Type 0) (Meet : ℕ → ℕ → ℕ → Type 0) (index : ℕ) : ℕ → ℕ → Type 0 where
  first : {t v : ℕ} → From t → Meet t index v → ChainBy From Follows Meet index v t
  next : {r t u v : ℕ} → ChainBy From Follows Meet index u r → Follows r t → Meet t u v → ChainBy From Follows Meet index v t

-- a badge passes on in its own tick, too
abbrev pub WithEqualTicks : (ℕ → ℕ → ℕ → Type 0) → ℕ → ℕ → ℕ → ℕ → Type 0
WithEqualTicks Meet index s = ChainBy (λ t. s ≤ t) (λ r t. r ≤ t) Meet index

-- the index passes on only after s
abbrev pub AfterStart : (ℕ → ℕ → ℕ → Type 0) → ℕ → ℕ → ℕ → ℕ → Type 0
AfterStart Meet index s = ChainBy (λ t. s < t) (λ r t. r < t) Meet index

-- contacts from tick s on, in any order
abbrev pub InAnyOrder : (ℕ → ℕ → ℕ → Type 0) → ℕ → ℕ → ℕ → ℕ → Type 0
InAnyOrder Meet index s = ChainBy (λ t. s ≤ t) (λ r t. s ≤ t) Meet index

-- ticks that are earliest arrivals by chains of some kind, and 255 where none arrives
pub record TicksBy (Arrives : ℕ → ℕ → Type 0) (n index : ℕ) (l : List ℕ) : Type 0 where
  pub arrives : (u : ℕ) → Other n index u → tick_in l u < never → Arrives u (tick_in l u)
  pub soonest : (u t : ℕ) → Other n index u → tick_in l u < never → Arrives u t → tick_in l u ≤ t
  pub none : (u t : ℕ) → Other n index u → tick_in l u ≡ never → Arrives u t → ⊥

-- as its source each reached badge shows the largest of those who may have passed on to it
pub record LargestSources (Meet : ℕ → ℕ → ℕ → Type 0) (n index s : ℕ) (l : List ℕ) : Type 0 where
  pub largest : (u v : ℕ) → Other n index u → tick_in l u < never → Meet (tick_in l u) v u → PassesOn index s (tick_in l) (tick_in l u) v → v ≤ source_in n l u

-- such ticks and sources, of a day
abbrev pub TicksWithEqual : ℕ → ℕ → List ℕ → ℕ → ℕ → List ℕ → Type 0
TicksWithEqual n T ws index s l = TicksBy (WithEqualTicks (Contact n T ws) index s) n index l

abbrev pub TicksAfterStart : ℕ → ℕ → List ℕ → ℕ → ℕ → List ℕ → Type 0
TicksAfterStart n T ws index s l = TicksBy (AfterStart (Contact n T ws) index s) n index l

abbrev pub TicksInAnyOrder : ℕ → ℕ → List ℕ → ℕ → ℕ → List ℕ → Type 0
TicksInAnyOrder n T ws index s l = TicksBy (InAnyOrder (Contact n T ws) index s) n index l

abbrev pub SourcesLargest : ℕ → ℕ → List ℕ → ℕ → ℕ → List ℕ → Type 0
SourcesLargest n T ws index s l = LargestSources (Contact n T ws) n index s l

-- ---- days

-- n 4, T 3: the path 0–1–2–3, met in rising ticks, 0–1 in tick 0, 1–2 in tick 1 and 2–3 in tick 2; in falling ticks, 2–3 in tick 0, 1–2 in tick 1 and 0–1
-- in tick 2; and all at once, in tick 0
unfoldable pub rising_words : List ℕ
rising_words = words_of (
    (badges (1 ∷ []) ∷ badges (0 ∷ []) ∷ badges [] ∷ badges [] ∷ [])
    ++ (badges [] ∷ badges (2 ∷ []) ∷ badges (1 ∷ []) ∷ badges [] ∷ [])
    ++ (badges [] ∷ badges [] ∷ badges (3 ∷ []) ∷ badges (2 ∷ []) ∷ []))

unfoldable pub falling_words : List ℕ
falling_words = words_of (
    (badges [] ∷ badges [] ∷ badges (3 ∷ []) ∷ badges (2 ∷ []) ∷ [])
    ++ (badges [] ∷ badges (2 ∷ []) ∷ badges (1 ∷ []) ∷ badges [] ∷ [])
    ++ (badges (1 ∷ []) ∷ badges (0 ∷ []) ∷ badges [] ∷ badges [] ∷ []))

unfoldable pub at_once_words : List ℕ
at_once_words = words_of (
    (badges (1 ∷ []) ∷ badges (0 ∷ 2 ∷ []) ∷ badges (1 ∷ 3 ∷ []) ∷ badges (2 ∷ []) ∷ [])
    ++ (badges [] ∷ badges [] ∷ badges [] ∷ badges [] ∷ [])
    ++ (badges [] ∷ badges [] ∷ badges [] ∷ badges [] ∷ []))

-- n 4, T 2: 0–1 and 0–2 in tick 0, and 1–3, 2–3 in tick 1: two badges may have passed on to badge 3
unfoldable pub two_sources_words : List ℕ
two_sources_words = words_of (
    (badges (1 ∷ 2 ∷ []) ∷ badges (0 ∷ []) ∷ badges (0 ∷ []) ∷ badges [] ∷ [])
    ++ (badges [] ∷ badges (3 ∷ []) ∷ badges (3 ∷ []) ∷ badges (1 ∷ 2 ∷ []) ∷ []))
