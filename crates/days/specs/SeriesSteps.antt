-- What the parts of reading a series leave. Private functions cite them; no promise rests on them.
use Rattle.std.specs.Prelude.{true, false, ◌&&◌, List, [], ◌∷◌, ◌++◌, ◌≡◌, ℕ, ◌*◌, ◌≤◌, eqb, length, drop}
use Rattle.sets.specs.Bools.{isnt}
use Rattle.records.specs.declared.record.Record.{Record}
use Rattle.records.specs.Limits.{words_for}
use Rattle.records.specs.Outcomes.{Outcome, refused, success, refuse_if, and_then}
use Rattle.records.specs.Meaning.{badges_of, ticks_of}
use Rattle.days.specs.declared.sizes.Sizes.{Sizes}
use Rattle.days.specs.declared.sizes.Sizes.TheVariants as z
use Rattle.series.specs.Series.{parts, judge_logs, badges_in, ticks_in, AllSized, have_size, Size, common_size}
use Rattle.days.specs.Series.{days_of}

-- what is known of the sizes of logs after one log more
unfoldable pub compared : Sizes → Size → Sizes
compared z.None size = z.Same size
compared (z.Same first) size = elim (eqb size.badges first.badges && eqb size.ticks first.ticks) [ true ↦ z.Same first | false ↦ z.Different ]
compared z.Different size = z.Different

-- the size that all have, and 19 where they differ
abbrev pub common_of : Sizes → Outcome Size
common_of z.None = success (record { badges = 0; ticks = 0 })
common_of (z.Same size) = success size
common_of z.Different = refused 19 0

-- what is known of accepted logs, and what judging logs and their sizes comes to
unfoldable pub sizes_in : List (List Record) → Sizes
sizes_in [] = z.None
sizes_in (rs ∷ rest) = elim (have_size (badges_of rs) (ticks_of rs) (rs ∷ rest)) [ true ↦ z.Same (common_size (rs ∷ rest)) | false ↦ z.Different ]

unfoldable pub sizes_of : Outcome (List (List Record)) → Outcome Size
sizes_of o = and_then o (λ all. refuse_if (isnt (have_size (badges_in all) (ticks_in all) all)) 19 0 (success (common_size all)))

-- logs that judging accepts, all of this size, and words enough for their days
pub record Fillable (logs lengths : List ℕ) (n T words : ℕ) : Type 0 where
  pub all : List (List Record)
  pub accepted : judge_logs 0 (parts logs lengths) ≡ success all
  pub sized : AllSized n T all
  pub room : length lengths * words_for n T ≤ words

-- Words that hold the days of accepted logs, and are as they were lent after them.
pub record Filled (logs lengths : List ℕ) (n T : ℕ) (lent words : List ℕ) : Type 0 where
  pub days : (all : List (List Record)) → judge_logs 0 (parts logs lengths) ≡ success all → words ≡ days_of all ++ drop (length lengths * words_for n T) lent
