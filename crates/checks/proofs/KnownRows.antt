-- Laws of rows in words, each the set of a badge: those of a tick of a day, those of empty sets, and those in which one is put.
use mathlib.Core.Path.{◌≡◌, sym, ap, ◌∙◌}
use mathlib.Core.List.{List, [], append-nil}
use mathlib.Core.Logic.{by_cases}
use Prim.Native.Nat.{ℕ, ◌+◌, ◌-◌, ◌*◌, ◌<◌}
use native.Mathlib.Decide.{dec_lt}
use native.Mathlib.Omega.{arith}
use lib.Pow.{pow_pos}
use lib.ListN.{length, take, drop, replicate, length-replicate, get_or-replicate}
use Rattle.sets.specs.Words.{set_words, places, set_at, put_set, words_of}
use Rattle.sets.proofs.Sets.{not-in-none}
use Rattle.sets.proofs.Places.{set-at-out, set-at-words, words-zero, put-length, put-there, put_other}
use Rattle.days.specs.Days.{neighbours, IsTick}
use Rattle.days.proofs.Days.{neighbours-part}

-- the words of tick t, and the sets there
abbrev pub tick_words : ℕ → List ℕ → ℕ → List ℕ
tick_words n ws t = take (t * n * set_words + n * set_words - t * n * set_words) (drop (t * n * set_words) ws)

pub tick-set : (n : ℕ) (ws : List ℕ) (t u : ℕ) → u < n → set_at (tick_words n ws t) u ≡ neighbours n ws t u
tick-set n ws t u l =
    let e : t * n * set_words + n * set_words - t * n * set_words ≡ n * set_words = omega arith in
    rw e (neighbours-part n ws t n u l)

-- rows of empty sets are a tick's
set-none : (m u : ℕ) → set_at (replicate (m * set_words) 0) u ≡ 0
set-none m u = by_cases (dec_lt u m)
    (λ l.
    ap (λ (ws : List ℕ). set_at ws u) (sym (words-zero m) ∙ sym (append-nil (words_of (replicate m 0))))
    ∙ set-at-words (replicate m 0) [] u (rw length-replicate l) ∙ get_or-replicate m u 0 0 l)
    (λ f. set-at-out (replicate (m * set_words) 0) u (rw length-replicate (omega arith)))

pub tick-none : (n m : ℕ) → IsTick n (set_at (replicate (m * set_words) 0))
tick-none n m = record {
  irreflexive = λ u l i. not-in-none u (rw (set-none m u) at i);
  within = λ u l. rw (set-none m u) (pow_pos n);
  symmetric = λ u v l k i. absurd (not-in-none v (rw (set-none m u) at i));
}

-- the rows after another is put in the place of v: as many words, that row there, and elsewhere those that were there
pub record Put (known : List ℕ) (v row : ℕ) (next : List ℕ) : Type 0 where
  pub size : length next ≡ length known
  pub there : set_at next v ≡ row
  pub others : (w : ℕ) → (w ≡ v → ⊥) → set_at next w ≡ set_at known w

pub put-row : (known : List ℕ) (v row : ℕ) {next : List ℕ} → v < places known → next ≡ put_set known v row → Put known v row next
put-row known v row l e = rw e (record { size = put-length known v row; there = put-there known v row l; others = λ w f. put_other known v w row f })
