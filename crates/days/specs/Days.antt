-- The day in words: "word t×n+u has bit v set exactly when u and v are in contact in tick t", or rather the set at that place, "word 2(t×n+u) and the next",
-- has v.
-- (A day is a temporal graph over T timestamps; the words of one tick are a snapshot's adjacency rows.)
use Rattle.std.specs.Prelude.{Bool, true, List, [], ◌++◌, ◌≡◌, ℕ, zero, suc, ◌+◌, ◌*◌, ◌^◌, ◌≤◌, ◌<◌, ltb, length}
use Rattle.sets.specs.Bools.{◌and◌, ◌or◌, isnt, all}
use Rattle.sets.specs.Sets.{In, has, set_of}
use Rattle.sets.specs.Tables.{tabulate}
use Rattle.sets.specs.Words.{set_at, words_of}
use Rattle.records.specs.declared.record.Record.{Record}
use Rattle.records.specs.Limits.{within_limits, words_for}
use Rattle.records.specs.Meaning.{badges_of, ticks_of, in_contact}

-- the badges in contact with u in tick t of a day of n badges, as a set
unfoldable pub neighbours : ℕ → List ℕ → ℕ → ℕ → ℕ
neighbours n ws t u = set_at ws (t * n + u)

-- u and v are in contact in tick t, by the words
unfoldable pub adjacent : ℕ → List ℕ → ℕ → ℕ → ℕ → Bool
adjacent n ws t u v = has (neighbours n ws t u) v

-- the sets of one tick: for each badge, those that a relation joins to it
unfoldable pub tick_sets : ℕ → (ℕ → ℕ → Bool) → List ℕ
tick_sets n r = tabulate n (λ u. set_of n (r u))

-- the sets of a day, tick by tick, and its words: r t u v says whether u and v are in contact in tick t
unfoldable pub day_sets : ℕ → ℕ → (ℕ → ℕ → ℕ → Bool) → List ℕ
day_sets n zero r = []
day_sets n (suc T) r = day_sets n T r ++ tick_sets n (r T)

unfoldable pub day_words : ℕ → ℕ → (ℕ → ℕ → ℕ → Bool) → List ℕ
day_words n T r = words_of (day_sets n T r)

-- the words of a log's day
unfoldable pub day_of : List Record → List ℕ
day_of rs = day_words (badges_of rs) (ticks_of rs) (in_contact rs)

-- The words of one tick of a day: "Bit u of badge u's own word is 0, bits from n up are 0, and the words of one tick are symmetric."
pub record IsTick (n : ℕ) (row : ℕ → ℕ) : Type 0 where
  pub irreflexive : (u : ℕ) → u < n → In (row u) u → ⊥
  pub within : (u : ℕ) → u < n → row u < 2 ^ n
  pub symmetric : (u v : ℕ) → u < n → v < n → In (row u) v → In (row v) u

-- every tick's words are those of a tick
pub record IsDay (n T : ℕ) (ws : List ℕ) : Type 0 where
  pub tick : (t : ℕ) → t < T → IsTick n (neighbours n ws t)

-- lent words of which the first 2×n×T are a day
pub record LentDay (n T : ℕ) (ws : List ℕ) : Type 0 where
  pub limits : within_limits n T ≡ true
  pub enough : words_for n T ≤ length ws
  pub day : IsDay n T ws

-- the tests whether rows are those of a tick, and words a day
unfoldable pub is_tick : ℕ → (ℕ → ℕ) → Bool
is_tick n row = all n (λ u. isnt (has (row u) u) and ltb (row u) (2 ^ n) and all n (λ v. isnt (has (row u) v) or has (row v) u))

unfoldable pub is_day : ℕ → ℕ → List ℕ → Bool
is_day n T ws = all T (λ t. is_tick n (neighbours n ws t))
