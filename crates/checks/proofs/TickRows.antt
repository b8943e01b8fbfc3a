-- Laws of rows in the words of an array: the sets of one tick over rows, and the union of rows.
use mathlib.Core.Path.{◌≡◌, refl, sym, ap, ◌∙◌}
use mathlib.Core.List.{List, ◌++◌}
use mathlib.Core.Logic.{◌⊎◌, inl, inr, by_cases}
use Prim.Native.Nat.{ℕ, zero, suc, ◌+◌, ◌-◌, ◌*◌, ◌/◌, ◌≤◌, ◌<◌, zero-le, min}
use native.Mathlib.Decide.{dec_lt}
use native.Mathlib.Omega.{arith}
use lib.ListN.{length, get_or, take, drop, length-append, length-drop, get_or-append}
use Rattle.std.proofs.lemmas.List.{get_or-take, get_or-drop, get_or-append_right}
use lib.Seq.{length-take-le}
use borrow.Author.Tests.{lt-ltb, le-ltb}
use Rattle.sets.specs.Sets.{In, full}
use Rattle.sets.specs.Members.{capacity, row_words}
use Rattle.sets.specs.Tables.{tabulate}
use Rattle.sets.specs.Words.{word_bits, set_words, Words, places, set_at, words_of}
use Rattle.sets.proofs.Sets.{not-in-none, in-union-left, in-union-right, of-union, in-full, of-full, ext}
use Rattle.sets.proofs.Tables.{tabulate-length, tabulate-at, tabulate-same, piecewise-in, piecewise-out}
use Rattle.sets.proofs.Places.{set-at-out, set-at-same, set-at-lt, sets_same, words-of-length, set-at-sets, words-fit}
use Rattle.checks.specs.Arrays.{tick_over, in_use, union_of}
use Rattle.checks.specs.Changes.{UnionOver}

-- the sets of a tick over rows fit
over-fits : (tick rows : List ℕ) → Words tick → Words rows → Words (words_of (tick_over tick rows))
unfolding tick_over
over-fits tick rows v w = words-fit (tick_over tick rows) (λ i l.
    let k : i < capacity = rw tabulate-length at l in
    rw (tabulate-at capacity _ i k)
    (by_cases (dec_lt i (places tick))
    (λ p. rw (piecewise-in (full (places tick)) (set_at tick) (set_at rows) i (in-full _ i p)) (set-at-lt tick i v))
    (λ p. rw (piecewise-out (full (places tick)) (set_at tick) (set_at rows) i (λ j. p (of-full _ i j))) (set-at-lt rows i w))))

-- Words copied over the words of rows, as many as make the tick's sets, hold the tick's sets over the rows.
module _ (tick rows : List ℕ) (v : Words tick) (w : Words rows) (e : length rows ≡ row_words) where
  -- as many words as make the tick's sets and have room
  count : ℕ
  count = set_words * min capacity (places tick)

  inside : count ≤ length tick
  unfolding count
  inside = omega arith

  among : count ≤ row_words
  unfolding count
  among = omega arith

  copied : List ℕ
  copied = take count tick ++ drop count rows

  front : length (take count tick) ≡ count
  front = length-take-le count tick inside

  here : (i : ℕ) → i < row_words → i < places tick * set_words → get_or copied i 0 ≡ get_or tick i 0
  unfolding copied count
  here i k p =
      let m : i < count = omega arith in
      get_or-append (take count tick) (drop count rows) 0 i (rw front m) ∙ get_or-take count tick i 0 m

  there : (i : ℕ) → i < row_words → (i < places tick * set_words → ⊥) → get_or copied i 0 ≡ get_or rows i 0
  unfolding copied count
  there i k p =
      let m : count ≤ i = omega arith in
      let f : count + (i - count) ≡ i = omega arith in
      get_or-append_right (take count tick) (drop count rows) count i 0 front m ∙ get_or-drop count rows (i - count) 0 ∙ ap (λ (x : ℕ). get_or rows x 0) f

  size : length copied ≡ row_words
  unfolding copied
  size = length-append (take count tick) (drop count rows) ∙ omega (arith, front, length-drop count rows, among)

  fit : Words copied
  fit = record {
    at = λ i l.
        let k : i < row_words = rw size at l in
        by_cases (dec_lt i (places tick * set_words)) (λ p. rw (here i k p) (v.at i (omega arith))) (λ p. rw (there i k p) (w.at i (omega arith)));
  }

  long : length (words_of (tick_over tick rows)) ≡ capacity * set_words
  unfolding tick_over
  long = words-of-length (tick_over tick rows) ∙ ap (λ (x : ℕ). x * set_words) (tabulate-length capacity _)

  same : (i : ℕ) → i < capacity → set_at copied i ≡ set_at (words_of (tick_over tick rows)) i
  unfolding tick_over
  same i l = by_cases (dec_lt i (places tick))
      (λ p. set-at-same copied tick i i (omega (arith, size)) p (λ x m. here (i * set_words + x) (omega arith) (omega arith))
      ∙ sym (set-at-sets (tick_over tick rows) i (rw tabulate-length l) ∙ tabulate-at capacity _ i l ∙ piecewise-in (full (places tick)) _ _ i (in-full _ i p)))
      (λ p. set-at-same copied rows i i (omega (arith, size)) (omega arith) (λ x m. there (i * set_words + x) (omega arith) (λ q. p (omega arith)))
      ∙ sym (set-at-sets (tick_over tick rows) i (rw tabulate-length l) ∙ tabulate-at capacity _ i l ∙ piecewise-out (full (places tick)) _ _ i (λ j. p (of-full _ i j))))

  pub over-copied : {k : ℕ} → k ≡ min capacity (places tick) → take (set_words * k) tick ++ drop (set_words * k) rows ≡ words_of (tick_over tick rows)
  unfolding copied count
  over-copied e = rw e (sets_same capacity copied (words_of (tick_over tick rows)) size long fit (over-fits tick rows v w) same)

-- the set of the tick at its places
pub over-tick : (tick rows : List ℕ) (u : ℕ) → u < capacity → u < places tick → set_at (words_of (tick_over tick rows)) u ≡ set_at tick u
unfolding tick_over
over-tick tick rows u l p = set-at-sets (tick_over tick rows) u (rw tabulate-length l) ∙ tabulate-at capacity _ u l ∙ piecewise-in (full (places tick)) _ _ u (in-full _ u p)

-- over rows of which those past the tick's sets are empty, the sets of a tick are its rows
pub over-empty : (tick rows : List ℕ) → ((u : ℕ) → places tick ≤ u → set_at rows u ≡ 0) → tick_over tick rows ≡ tabulate capacity (set_at tick)
unfolding tick_over
over-empty tick rows h = tabulate-same capacity _ _ (λ u l.
    by_cases (dec_lt u (places tick))
    (λ p. piecewise-in (full (places tick)) _ _ u (in-full _ u p))
    (λ p. piecewise-out (full (places tick)) _ _ u (λ i. p (of-full _ u i)) ∙ h u (omega arith) ∙ sym (set-at-out tick u (omega arith))))

-- s has every badge that is in one of the first n rows
pub record Unites (n : ℕ) (rows : List ℕ) (s : ℕ) : Type 0 where
  pub has : (u v : ℕ) → u < n → In (set_at rows u) v → In s v

-- the union is such a set
union-has : (rows : List ℕ) (m u v : ℕ) → u < m → In (set_at rows u) v → In (union_of m rows) v
unfolding union_of
union-has rows zero u v l i = absurd (omega arith)
union-has rows (suc m) u v l i =
    by_cases (dec_lt u m)
    (λ k. in-union-left (union_of m rows) (set_at rows m) v (union-has rows m u v k i))
    (λ k. let e : u ≡ m = omega arith in in-union-right (union_of m rows) (set_at rows m) v (rw e at i))

union-of : (rows : List ℕ) (m v : ℕ) → In (union_of m rows) v → (u : ℕ) × (u < m) × In (set_at rows u) v
unfolding union_of
union-of rows zero v i = absurd (not-in-none v i)
union-of rows (suc m) v i = go (union-of rows m v) (of-union (union_of m rows) (set_at rows m) v i)
  where
    go : (In (union_of m rows) v → (u : ℕ) × (u < m) × In (set_at rows u) v) → In (union_of m rows) v ⊎ In (set_at rows m) v → (u : ℕ) × (u < suc m) × In (set_at rows u) v
    go ih (inl j) = let x = ih j in (x.0, omega (arith, x.1), x.2)
    go ih (inr j) = (m, omega arith, j)

-- above the bits of a word all rows are in use, up to them as many as these, and up to half of them as many as that
pub in-use-all : (n : ℕ) → word_bits < n → in_use n ≡ capacity
unfolding in_use
in-use-all n l = rw (lt-ltb (word_bits / 2) n (omega (arith, l)), lt-ltb word_bits n l, in_use) refl

pub in-use-word : (n : ℕ) → word_bits / 2 < n → n ≤ word_bits → in_use n ≡ word_bits
unfolding in_use
in-use-word n m l = rw (lt-ltb (word_bits / 2) n m, le-ltb word_bits n l, in_use) refl

pub in-use-half : (n : ℕ) → n ≤ word_bits / 2 → in_use n ≡ word_bits / 2
unfolding in_use
in-use-half n l = rw (le-ltb (word_bits / 2) n l, in_use) refl

-- the rows in use have those of all n badges
all_in_use : (n : ℕ) → n ≤ capacity → n ≤ in_use n
all_in_use n l =
    by_cases (dec_lt word_bits n)
    (λ m. rw (in-use-all n m) l)
    (λ m.
    by_cases (dec_lt (word_bits / 2) n)
    (λ k. rw (in-use-word n k (omega (arith, m))) (omega (arith, m)))
    (λ k. rw (in-use-half n (omega (arith, k))) (omega (arith, k))))

pub unites : {n : ℕ} → n ≤ capacity → (rows : List ℕ) {s : ℕ} → s ≡ union_of (in_use n) rows → Unites n rows s
unites {n = n} l rows e = rw e (record { has = λ u v m i. union-has rows (in_use n) u v (omega (arith, m, all_in_use n l)) i })

-- and every union over the first m rows is it
pub union-over : (rows : List ℕ) {m k s : ℕ} → m ≡ k → UnionOver (set_at rows) 0 m s → s ≡ union_of k rows
union-over rows {s = s} e h = rw e at (ext s _
    (λ v i. let x = h.of v i in union-has rows _ x.0 v x.2 x.3)
    (λ v i. let x = union-of rows _ v i in h.has x.0 v zero-le x.1 x.2))
