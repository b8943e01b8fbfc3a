-- Laws of spans and their rows: which ticks make a span; a pair is joined exactly when it is in contact in every tick of the span, so a longer
-- span has fewer pairs.
use mathlib.Core.Path.{◌≡◌, sym, ap, ◌∙◌}
use mathlib.Core.Bool.{true}
use mathlib.Core.List.{List, ◌++◌}
use mathlib.Core.Logic.{⊎_elim, by_cases}
use Prim.Native.Nat.{ℕ, suc, ◌*◌, ◌^◌, ◌≤◌, ◌<◌, suc-le-suc}
use native.Mathlib.Nat.{lt_of_lt_of_le}
use native.Mathlib.Decide.{dec_lt}
use native.Mathlib.Omega.{arith}
use lib.Dec.{ltb, lit<}
use lib.ListN.{length, get_or, get_or-eq_default}
use lib.Pow.{pow_mono}
use borrow.Author.Tests.{leb-true, le-leb, ltb-true, lt-ltb}
use Rattle.sets.specs.Bools.{◌or◌}
use Rattle.sets.specs.Sets.{In, Sub, full}
use Rattle.sets.specs.Members.{capacity, row_words}
use Rattle.sets.specs.Words.{set_words, Words, set_at}
use Rattle.sets.proofs.Bools.{and_in, and_left, and_right, or_left, or_right, or-of, all_in, all_of}
use Rattle.sets.proofs.Sets.{in-test, has-test, set-lt, in-set, of-set, of-set-lt, in-full, of-full}
use Rattle.sets.proofs.Tables.{tabulate-length, tabulate-at, piecewise-in, piecewise-out}
use Rattle.sets.proofs.Places.{set-at-out, words-of-length, set-at-sets, words-fit}
use Rattle.records.specs.Limits.{words_for}
use Rattle.days.specs.Days.{neighbours, adjacent}
use Rattle.days.proofs.Days.{neighbours-append}
use Rattle.cores.proofs.Degrees.{FewerPairs}
use Rattle.spans.specs.Spans.{is_span, throughout, span_neighbours, span_rows, span_words}

-- the test for a span of the day passes exactly when first is not after last and last is below T
pub span-in : (T first last : ℕ) → first ≤ last → last < T → is_span T first last ≡ true
unfolding is_span
span-in T first last h k = and_in _ _ (le-leb _ _ h) (lt-ltb _ _ k)

pub span_of : (T first last : ℕ) → is_span T first last ≡ true → (first ≤ last) × (last < T)
unfolding is_span
span_of T first last e = (leb-true _ _ (and_left _ _ e), ltb-true _ _ (and_right _ _ e))

-- two badges are in contact throughout a span exactly when they are in each of its ticks
pub throughout-of : (n : ℕ) (ws : List ℕ) (first last u v : ℕ) → throughout n ws first last u v ≡ true → (t : ℕ) → first ≤ t → t ≤ last → In (neighbours n ws t u) v
unfolding throughout adjacent
throughout-of n ws first last u v e t l r =
    ⊎_elim
    (λ p. absurd (omega (arith, ltb-true t first p)))
    (in-test (neighbours n ws t u) v)
    (or-of _ _ (all_of (suc last) (λ t. ltb t first or adjacent n ws t u v) e t (suc-le-suc r)))

pub throughout-in : (n : ℕ) (ws : List ℕ) (first last u v : ℕ) → ((t : ℕ) → first ≤ t → t ≤ last → In (neighbours n ws t u) v) → throughout n ws first last u v ≡ true
unfolding throughout adjacent
throughout-in n ws first last u v h =
    all_in (suc last) (λ t. ltb t first or adjacent n ws t u v) (λ t l.
    by_cases (dec_lt t first)
    (λ p. or_left _ _ (lt-ltb t first p))
    (λ p. or_right (ltb t first) _ (has-test _ v (h t (omega arith) (omega arith)))))

-- a badge is a neighbour on a span exactly when it is below n and a neighbour in each of the span's ticks
pub in_span : (n : ℕ) (ws : List ℕ) (first last u v : ℕ) → v < n → ((t : ℕ) → first ≤ t → t ≤ last → In (neighbours n ws t u) v)
    → In (span_neighbours n ws first last u) v
unfolding span_neighbours
in_span n ws first last u v l h = in-set n (throughout n ws first last u) v l (throughout-in n ws first last u v h)

pub of-span : (n : ℕ) (ws : List ℕ) (first last u v : ℕ) → In (span_neighbours n ws first last u) v
    → (v < n) × ((t : ℕ) → first ≤ t → t ≤ last → In (neighbours n ws t u) v)
unfolding span_neighbours
of-span n ws first last u v i =
    (of-set-lt n (throughout n ws first last u) v i, throughout-of n ws first last u v (of-set n (throughout n ws first last u) v i))

-- a longer span has fewer pairs
pub span-fewer : (n : ℕ) (ws : List ℕ) (s first last first' last' : ℕ) → first' ≤ first → last ≤ last'
    → FewerPairs s (span_neighbours n ws first' last') (span_neighbours n ws first last)
span-fewer n ws s first last first' last' l r = record {
  pair = λ u v i j k.
      let h = of-span n ws first' last' u v k in
      in_span n ws first last u v h.0 (λ t p q. h.1 t (omega arith) (omega arith));
}

-- words with the same neighbours of n badges in T ticks
abbrev pub SameDay : ℕ → ℕ → List ℕ → List ℕ → Type 0
SameDay n T xs ys = (t u : ℕ) → t < T → u < n → neighbours n xs t u ≡ neighbours n ys t u

-- have the same pairs on every span of the day
pub fewer_head : (n T : ℕ) (xs ys : List ℕ) (base first last : ℕ) → last < T → SameDay n T xs ys → Sub base (full n) → FewerPairs base (span_neighbours n xs first last) (span_neighbours n ys first last)
fewer_head n T xs ys base first last h f r = record {
  pair = λ u v i j k.
      let x = of-span n xs first last u v k in
      in_span n ys first last u v x.0 (λ t p q. rw (f t u (omega arith) (of-full n u (r.at u i))) at (x.1 t p q));
}

-- words that differ only after the first 2×n×T are such
pub same_rest : (n T : ℕ) (ws xs ys : List ℕ) → length ws ≡ words_for n T → SameDay n T (ws ++ xs) (ws ++ ys)
same_rest n T ws xs ys e t u h k = neighbours-append n T ws xs t u e h k ∙ sym (neighbours-append n T ws ys t u e h k)

-- the rows of a span: as many as a set can hold badges, the neighbours of each badge below n, and nothing from n up
pub span-length : (n : ℕ) (ws : List ℕ) (first last : ℕ) → length (span_rows n ws first last) ≡ capacity
unfolding span_rows
span-length n ws first last = tabulate-length capacity _

pub span-row : (n : ℕ) (ws : List ℕ) (first last u : ℕ) → n ≤ capacity → u < n → get_or (span_rows n ws first last) u 0 ≡ span_neighbours n ws first last u
unfolding span_rows
span-row n ws first last u w l = tabulate-at capacity _ u (omega arith) ∙ piecewise-in (full n) _ _ u (in-full n u l)

pub span-row-none : (n : ℕ) (ws : List ℕ) (first last u : ℕ) → n ≤ u → get_or (span_rows n ws first last) u 0 ≡ 0
unfolding span_rows
span-row-none n ws first last u l =
    by_cases (dec_lt u capacity)
    (λ p. tabulate-at capacity _ u p ∙ piecewise-out (full n) _ _ u (λ i. omega (arith, of-full n u i)))
    (λ p. get_or-eq_default (span_rows n ws first last) 0 (omega (arith, span-length n ws first last)))

-- and in the words of an array: as many as all rows have, each a word, and the same sets at their places
pub span-words-length : (n : ℕ) (ws : List ℕ) (first last : ℕ) → length (span_words n ws first last) ≡ row_words
span-words-length n ws first last = words-of-length (span_rows n ws first last) ∙ ap (λ (x : ℕ). x * set_words) (span-length n ws first last)

pub span_set : (n : ℕ) (ws : List ℕ) (first last u : ℕ) → n ≤ capacity → u < n → set_at (span_words n ws first last) u ≡ span_neighbours n ws first last u
span_set n ws first last u w l = set-at-sets (span_rows n ws first last) u (rw span-length (omega arith)) ∙ span-row n ws first last u w l

pub span-set-none : (n : ℕ) (ws : List ℕ) (first last u : ℕ) → n ≤ u → set_at (span_words n ws first last) u ≡ 0
span-set-none n ws first last u l =
    by_cases (dec_lt u capacity)
    (λ p. set-at-sets (span_rows n ws first last) u (rw span-length p) ∙ span-row-none n ws first last u l)
    (λ p. set-at-out (span_words n ws first last) u (rw span-words-length (omega arith)))

-- the neighbours of a badge on a span are badges below n
pub span-lt : (n : ℕ) (ws : List ℕ) (first last u : ℕ) → span_neighbours n ws first last u < 2 ^ n
unfolding span_neighbours
span-lt n ws first last u = set-lt n (throughout n ws first last u)

-- so the words of the rows are words
pub span-words-fit : (n : ℕ) (ws : List ℕ) (first last : ℕ) → n ≤ capacity → Words (span_words n ws first last)
span-words-fit n ws first last w = words-fit (span_rows n ws first last) (λ u k. by_cases (dec_lt u n)
    (λ p. rw (span-row n ws first last u w p) (lt_of_lt_of_le (span-lt n ws first last u) (pow_mono w)))
    (λ p. rw (span-row-none n ws first last u (omega arith)) (lit< tt)))
