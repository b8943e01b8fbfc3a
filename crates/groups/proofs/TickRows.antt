-- Laws of the rows of a tick: they are those of the span of that tick alone, and a span's rows narrowed by the next tick are those of the longer
-- span.
use mathlib.Core.Path.{◌≡◌, sym, ap₂, ◌∙◌}
use mathlib.Core.List.{List}
use mathlib.Core.Logic.{by_cases}
use Prim.Native.Nat.{ℕ, suc, ◌+◌, ◌*◌, ◌/◌, ◌%◌, ◌^◌, ◌≤◌, ◌<◌}
use native.Mathlib.Nat.{le_refl, lt_of_lt_of_le}
use native.Mathlib.Decide.{dec_lt, dec_le}
use native.Mathlib.Omega.{arith}
use lib.Bits.{and_le_l}
use lib.ListN.{length, get_or, drop, length-take}
use lib.Pow.{pow_mono}
use Rattle.sets.specs.Sets.{In, full, intersection}
use Rattle.sets.specs.Members.{capacity, row_words}
use Rattle.sets.specs.Tables.{tabulate}
use Rattle.sets.specs.Words.{word_bits, set_words, Words, places, set_at}
use Rattle.sets.proofs.Sets.{in-intersection, of-intersection-left, of-intersection-right, in-lt, in-full, of-full, ext}
use Rattle.sets.proofs.Tables.{tabulate-same, piecewise-in, piecewise-out}
use Rattle.sets.proofs.Places.{set-at-out, set-at-same, sets_same, word-none-above}
use Rattle.sets.proofs.EachWord.{set-at-intersection}
use Rattle.days.specs.Days.{neighbours, IsDay}
use Rattle.days.proofs.Days.{neighbours-part}
use Rattle.spans.specs.Spans.{span_neighbours, span_rows, span_words}
use Rattle.spans.proofs.SpanRows.{in_span, of-span, span-words-length, span_set, span-set-none, span-words-fit, span-lt}
use Rattle.groups.specs.Steps.{tick_of}

-- rows that are those of a span below n and empty from n up are the rows of the span
rows_are : (n : ℕ) (ws : List ℕ) (first last : ℕ) (f : ℕ → ℕ) → ((u : ℕ) → u < n → f u ≡ span_neighbours n ws first last u) → ((u : ℕ) → n ≤ u → f u ≡ 0)
    → tabulate capacity f ≡ span_rows n ws first last
unfolding span_rows
rows_are n ws first last f h g =
    tabulate-same capacity f _ (λ u l.
    by_cases (dec_lt u n)
    (λ p. h u p ∙ sym (piecewise-in (full n) _ _ u (in-full n u p)))
    (λ p. g u (omega arith) ∙ sym (piecewise-out (full n) _ _ u (λ i. omega (arith, of-full n u i)))))

-- the sets of a tick: the neighbours of each badge below n, and nothing from n up
tick-at : (n : ℕ) (ws : List ℕ) (t u : ℕ) → u < n → set_at (tick_of n ws t) u ≡ neighbours n ws t u
unfolding tick_of
tick-at n ws t u l = neighbours-part n ws t n u l

tick-past : (n : ℕ) (ws : List ℕ) (t u : ℕ) → n ≤ u → set_at (tick_of n ws t) u ≡ 0
unfolding tick_of
tick-past n ws t u l = set-at-out (tick_of n ws t) u (omega (arith, length-take (n * set_words) (drop (t * n * set_words) ws)))

-- the rows of one tick of a day are those of the span of this tick alone
pub tick-span : (n T : ℕ) (ws : List ℕ) (t : ℕ) → IsDay n T ws → t < T → tabulate capacity (set_at (tick_of n ws t)) ≡ span_rows n ws t t
tick-span n T ws t d l = rows_are n ws t t _ (λ u k. tick-at n ws t u k ∙ ext _ _ (there u k) (back u)) (tick-past n ws t)
  where
    there : (u : ℕ) → u < n → (v : ℕ) → In (neighbours n ws t u) v → In (span_neighbours n ws t t u) v
    there u k v i = in_span n ws t t u v (in-lt n _ v ((d.tick t l).within u k) i) (λ s p q. let g : s ≡ t = omega arith in rw g i)

    back : (u v : ℕ) → In (span_neighbours n ws t t u) v → In (neighbours n ws t u) v
    back u v i = (of-span n ws t t u v i).1 t (le_refl t) (le_refl t)

-- the neighbours on a span that are neighbours in the next tick are those on the span that is longer by this tick
longer : (n : ℕ) (ws : List ℕ) (first last u : ℕ) → first ≤ last
    → intersection (span_neighbours n ws first last u) (neighbours n ws (suc last) u) ≡ span_neighbours n ws first (suc last) u
longer n ws first last u h = ext _ _ there back
  where
    there : (v : ℕ) → In (intersection (span_neighbours n ws first last u) (neighbours n ws (suc last) u)) v → In (span_neighbours n ws first (suc last) u) v
    there v i =
        let s = of-span n ws first last u v (of-intersection-left _ _ v i) in
        in_span n ws first (suc last) u v s.0 (λ t p q.
        by_cases (dec_le t last)
        (s.1 t p)
        (λ r. let e : t ≡ suc last = omega arith in rw e (of-intersection-right _ _ v i)))

    back : (v : ℕ) → In (span_neighbours n ws first (suc last) u) v → In (intersection (span_neighbours n ws first last u) (neighbours n ws (suc last) u)) v
    back v i =
        let s = of-span n ws first (suc last) u v i in
        in-intersection _ _ v (in_span n ws first last u v s.0 (λ t p q. s.1 t p (omega arith))) (s.1 (suc last) (omega arith) (le_refl _))

-- Narrowed by the next tick, the rows of a span are those of the span that is longer by this tick: words that are intersected with the tick's, as many as it
-- has, and otherwise stay.
module _ (n : ℕ) (ws : List ℕ) (first last : ℕ) (w : n ≤ capacity) (h : first ≤ last) (e : length (tick_of n ws (suc last)) ≡ n * set_words) (f : Words (tick_of n ws (suc last))) (out : List ℕ) where
  abbrev rows : List ℕ
  rows = span_words n ws first last

  abbrev tick : List ℕ
  tick = tick_of n ws (suc last)

  module _ (size : length out ≡ row_words)
      (each : (u x : ℕ) → u < n → x < set_words → get_or out (u * set_words + x) 0 ≡ intersection (get_or rows (u * set_words + x) 0) (get_or tick (u * set_words + x) 0))
      (others : (i : ℕ) → n * set_words ≤ i → get_or out i 0 ≡ get_or rows i 0) where
    narrow_at : (u : ℕ) → u < capacity → set_at out u ≡ set_at (span_words n ws first (suc last)) u
    narrow_at u l = by_cases (dec_lt u n)
        (λ p.
        set-at-intersection out rows tick u u u
        (rw size (omega arith)) (rw (span-words-length n ws first last) (omega arith)) (omega arith) (span-words-fit n ws first last w) f (λ x m. each u x p m)
        ∙ ap₂ intersection (span_set n ws first last u w p) (tick-at n ws (suc last) u p)
        ∙ longer n ws first last u h
        ∙ sym (span_set n ws first (suc last) u w p))
        (λ p.
        set-at-same out rows u u (rw size (omega arith)) (rw (span-words-length n ws first last) (omega arith)) (λ x m. others (u * set_words + x) (omega arith))
        ∙ span-set-none n ws first last u (omega arith)
        ∙ sym (span-set-none n ws first (suc last) u (omega arith)))

    narrow-fit : Words out
    unfolding intersection
    narrow-fit = record {
      at = λ i l.
          let k : i < length rows = rw (span-words-length n ws first last) (omega arith) in
          let x = (span-words-fit n ws first last w).at i k in
          let d : i / set_words * set_words + i % set_words ≡ i = omega arith in
          by_cases (dec_lt i (n * set_words))
          (λ p.
          let y : get_or out i 0 ≡ intersection (get_or rows i 0) (get_or tick i 0) = rw d at (each (i / set_words) (i % set_words) (omega arith) (omega arith)) in
          rw y (omega (arith, and_le_l (get_or rows i 0) (get_or tick i 0))))
          (λ p. rw (others i (omega arith)) x);
    }

    pub narrow-span : out ≡ span_words n ws first (suc last)
    narrow-span = sets_same capacity _ _ size (span-words-length n ws first (suc last)) narrow-fit (span-words-fit n ws first (suc last) w) narrow_at

-- rows of up to so many badges as a word has bits have nobody in their upper words
pub upper-none : (n : ℕ) (ws : List ℕ) (first last u : ℕ) → n ≤ word_bits → u < n → get_or (span_words n ws first last) (u * set_words + 1) 0 ≡ 0
upper-none n ws first last u few l =
    let w : n ≤ capacity = omega arith in
    let inside : u < places (span_words n ws first last) = rw (span-words-length n ws first last) (omega arith) in
    let small : span_neighbours n ws first last u < 2 ^ word_bits = lt_of_lt_of_le (span-lt n ws first last u) (pow_mono few) in
    word-none-above (span_words n ws first last) u 1 (span-words-fit n ws first last w) inside (omega arith) (rw (span_set n ws first last u w l) small)
