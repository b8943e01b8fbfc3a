-- Laws of the loops that work out a span's rows, narrowed tick by tick.
use mathlib.Core.Path.{◌≡◌, refl, ap, ◌∙◌}
use mathlib.Core.List.{List}
use mathlib.Core.Logic.{by_cases}
use Prim.Native.Nat.{ℕ, ◌+◌, ◌-◌, ◌*◌, ◌≤◌, ◌<◌}
use native.Mathlib.Nat.{le_refl, mul_assoc}
use native.Mathlib.Numerals.{add-one}
use native.Mathlib.Decide.{dec_lt}
use native.Mathlib.Omega.{arith}
use lib.ListN.{length, take, drop, replicate, length-drop, length-replicate, get_or-replicate}
use lib.Seq.{length-take-le}
use Rattle.sets.specs.Members.{capacity, row_words}
use Rattle.sets.specs.Words.{set_words, Words, words_of}
use Rattle.sets.proofs.Words.{words_take, words-drop}
use Rattle.sets.proofs.Places.{set-at-out, set-at-sets, words-zero}
use Rattle.records.proofs.WithinLimits.{limits_of}
use Rattle.checks.specs.Arrays.{tick_over}
use Rattle.days.proofs.Days.{tick-fits}
use Rattle.checks.proofs.TickRows.{over-empty}
use Rattle.days.specs.Days.{LentDay}
use Rattle.spans.specs.Spans.{span_words}
use Rattle.spans.proofs.SpanRows.{span-set-none}
use Rattle.groups.specs.Steps.{tick_of, NextTick, Narrows, RowsTo, EmptyFrom}
use Rattle.groups.proofs.TickRows.{tick-span}

-- the words of a tick are among the words, those of t * n sets before them, and those of n sets from there are the tick's
pub tick-inside : {n T : ℕ} {ws : List ℕ} (t : ℕ) → LentDay n T ws → t < T → t * (n * set_words) + n * set_words ≤ length ws
tick-inside {n} {T} t d l = omega (arith, d.enough, tick-fits t T n (omega arith), mul_assoc t n set_words)

pub slice-tick : (n : ℕ) (ws : List ℕ) (t : ℕ) → take (t * (n * set_words) + n * set_words - t * (n * set_words)) (drop (t * (n * set_words)) ws) ≡ tick_of n ws t
unfolding tick_of
slice-tick n ws t =
    let f : t * (n * set_words) + n * set_words - t * (n * set_words) ≡ n * set_words = omega arith in
    rw (f, ← mul_assoc t n set_words)

-- they are words if all are, and as many as n sets have
pub tick-fit : (n : ℕ) (ws : List ℕ) (t : ℕ) → Words ws → Words (tick_of n ws t)
unfolding tick_of
tick-fit n ws t w = words_take (n * set_words) (words-drop (t * n * set_words) w)

tick-length : {n T : ℕ} {ws : List ℕ} (t : ℕ) → LentDay n T ws → t < T → length (tick_of n ws t) ≡ n * set_words
unfolding tick_of
tick-length {n} {T} {ws} t d l = length-take-le (n * set_words) (drop (t * n * set_words) ws) (omega (arith, tick-inside t d l, length-drop (t * n * set_words) ws, mul_assoc t n set_words))

-- an array of empty rows, and the rows of a span, which are empty from n up
pub empty-zeros : (n : ℕ) → EmptyFrom n (replicate row_words 0)
empty-zeros n = record {
  past = λ u l. by_cases (dec_lt u capacity)
      (λ p. rw (← words-zero capacity) (set-at-sets (replicate capacity 0) u (omega (arith, length-replicate {A = ℕ} capacity 0)) ∙ get_or-replicate capacity u 0 0 p))
      (λ p. set-at-out (replicate row_words 0) u (omega (arith, length-replicate {A = ℕ} row_words 0)));
}

pub empty-span : (n : ℕ) (ws : List ℕ) (first last : ℕ) {rows : List ℕ} → rows ≡ span_words n ws first last → EmptyFrom n rows
empty-span n ws first last e = rw e (record { past = λ u l. span-set-none n ws first last u l })

module _ {n T : ℕ} {ws : List ℕ} (d : LentDay n T ws) where
  few : n ≤ capacity
  few = (limits_of d.limits).few

  -- the rows of the first tick are those of its span
  pub first-tick : {first : ℕ} {given rows : List ℕ} → first < T → EmptyFrom n given → rows ≡ words_of (tick_over (tick_of n ws first) given) → rows ≡ span_words n ws first first
  first-tick {first} {given} l z e =
      let whole = tick-length first d l in
      e ∙ ap words_of (over-empty (tick_of n ws first) given (λ u l. z.past u (omega (arith, whole))) ∙ tick-span n T ws first d.day l)

  module _ {first last t : ℕ} {rows : List ℕ} (g : RowsTo n ws first last rows t) (l : t < last) (h : last < T) where
    -- the words of the next tick narrow them
    pub to_step : Words (tick_of n ws (t + 1)) → NextTick rows (tick_of n ws (t + 1))
    to_step fit = record {
      badges = n;
      words = ws;
      first = first;
      last = t;
      few = few;
      rising = g.low;
      span = g.are;
      next = rw add-one refl;
      whole = tick-length (t + 1) d (omega arith);
      fit = fit;
    }

    -- to the rows of the span that is longer by it
    pub to_next : {longer : List ℕ} → Narrows rows (tick_of n ws (t + 1)) longer → Words (tick_of n ws (t + 1)) → RowsTo n ws first last longer (t + 1)
    unfolding to_step
    to_next n fit = record { low = omega (arith, g.low); high = omega arith; are = rw add-one (n.span (to_step fit)) }

-- a longer span starts with the rows of its first tick
pub first_of : {n : ℕ} {ws : List ℕ} {first last : ℕ} {rows : List ℕ} → first ≤ last → rows ≡ span_words n ws first first → RowsTo n ws first last rows first
first_of {first = first} l e = record { low = le_refl first; high = l; are = e }

-- at the last tick
pub to_end : {n : ℕ} {ws : List ℕ} {first last t : ℕ} {rows : List ℕ} → RowsTo n ws first last rows t → last ≤ t → rows ≡ span_words n ws first last
to_end {n} {ws} {first} {last} {t} g l = let e : t ≡ last = omega (arith, g.high) in g.are ∙ ap (span_words n ws first) e
