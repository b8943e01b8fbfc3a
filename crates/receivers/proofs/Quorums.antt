-- The words that hold the quorum of logs' days are the words of the joined day.
use mathlib.Core.Path.{◌≡◌, refl, sym, ap, ap₂, ◌∙◌}
use mathlib.Core.Bool.{Bool, true, false}
use mathlib.Core.List.Memᴰ
use mathlib.Core.List.{List, [], ◌∷◌, ◌++◌, append_assoc}
use Prim.Native.Nat.{ℕ, zero, suc, ◌+◌, ◌*◌, ◌/◌, ◌%◌, ◌≤◌, ◌<◌}
use native.Mathlib.Nat.{add_assoc, zero-mul, suc-mul}
use native.Mathlib.Decide.{dec_lt}
use native.Mathlib.Omega.{arith}
use lib.Arith.{digits_lt}
use lib.Dec.{eqb, leb}
use lib.ListN.{length, get_or, take, drop, get_or-append, take-append-drop}
use lib.Seq.{get_or-append-add, length-take-le}
use borrow.Author.Tests.{lt-leb}
use Rattle.sets.specs.Sets.{In, has, digit}
use Rattle.sets.specs.Words.{word_bits, set_words, Words}
use Rattle.sets.specs.Members.{capacity}
use Rattle.sets.proofs.Bools.{same_test, to-false, clash}
use Rattle.sets.proofs.Sets.{in-test, has-test, in-lt}
use Rattle.sets.proofs.Words.{words_take}
use Rattle.sets.proofs.Places.{set-at-bit, set-at-lt}
use Rattle.records.specs.declared.record.Record.{Record}
use Rattle.records.specs.Limits.{words_for}
use Rattle.records.specs.Meaning.{in_contact}
use Rattle.days.specs.Days.{neighbours, day_words, day_of}
use Rattle.series.specs.Series.{Sized, AllSized}
use Rattle.days.specs.Series.{days_of}
use Rattle.days.proofs.Days.{day-length, day-fits, in-day, of-day, day-by, neighbours-take}
use Rattle.receivers.specs.Joining.{heard_by, quorum}
use Rattle.receivers.specs.Counting.{count_at, Combined}
use Rattle.days.proofs.SeriesLoops.{day-words}

-- counting from the first log on: its word, and those of the others
count-front : (m size : ℕ) (xs ws : List ℕ) (i v : ℕ) → length xs ≡ size → i < size
    → count_at (suc m) size (xs ++ ws) i v ≡ digit (has (get_or xs i 0) v) + count_at m size ws i v
unfolding count_at
count-front zero size xs ws i v e h =
    let z : zero * size + i ≡ i = omega (arith, zero-mul size) in
    let g : get_or (xs ++ ws) (zero * size + i) 0 ≡ get_or xs i 0 = ap (λ (k : ℕ). get_or (xs ++ ws) k 0) z ∙ get_or-append xs ws 0 i (omega arith) in
    rw g (omega arith)
count-front (suc m) size xs ws i v e h =
    let z : suc m * size + i ≡ length xs + (m * size + i) = omega (arith, suc-mul m size) in
    let g : get_or (xs ++ ws) (suc m * size + i) 0 ≡ get_or ws (m * size + i) 0 = ap (λ (k : ℕ). get_or (xs ++ ws) k 0) z ∙ get_or-append-add xs ws (m * size + i) 0 in
    ap₂ ◌+◌ (count-front m size xs ws i v e h) (ap (λ (x : ℕ). digit (has x v)) g)
    ∙ add_assoc (digit (has (get_or xs i 0) v)) (count_at m size ws i v) (digit (has (get_or ws (m * size + i) 0) v))

-- The word that has badge v of the set of badge u in tick t, and its bit there.
abbrev word_at : ℕ → ℕ → ℕ → ℕ → ℕ
word_at n t u v = (t * n + u) * set_words + v / word_bits

word-there : {n T t u v : ℕ} → t < T → u < n → v < capacity → word_at n t u v < words_for n T
word-there h k l = omega (arith, digits_lt h k)

module _ (n T : ℕ) (few : n ≤ capacity) where
  -- a badge is in the set exactly when its bit of its word is 1
  has-bit : (ws : List ℕ) (t u v : ℕ) → Words ws → words_for n T ≤ length ws → t < T → u < n → v < capacity
      → has (neighbours n ws t u) v ≡ has (get_or ws (word_at n t u v) 0) (v % word_bits)
  unfolding neighbours
  has-bit ws t u v w e h k l = ap (λ (b : ℕ). eqb b 1) (set-at-bit ws (t * n + u) v w (omega (arith, digits_lt h k)) l)

  -- a day's words have the badges in contact, and none of n or more
  day-has : (rs : List Record) (t u v : ℕ) → Sized n T rs → t < T → u < n → v < capacity
      → has (get_or (day_of rs) (word_at n t u v) 0) (v % word_bits) ≡ has (neighbours n (day_words n T (in_contact rs)) t u) v
  unfolding day_of
  day-has rs t u v s h k l =
      rw (s.badges, s.ticks) (sym (has-bit (day_words n T (in_contact rs)) t u v (day-fits n T _ few) (omega (arith, day-length n T (in_contact rs))) h k l))

  word-has : (rs : List Record) (t u v : ℕ) → Sized n T rs → t < T → u < n → v < n → has (get_or (day_of rs) (word_at n t u v) 0) (v % word_bits) ≡ in_contact rs t u v
  word-has rs t u v s h k l =
      day-has rs t u v s h k (omega arith)
      ∙ same_test _ _ (λ e. (of-day n T (in_contact rs) t u v h k (in-test _ v e)).1) (λ e. has-test _ v (in-day n T (in_contact rs) t u v h k l e))

  word-lacks : (rs : List Record) (t u v : ℕ) → Sized n T rs → t < T → u < n → n ≤ v → v < capacity → has (get_or (day_of rs) (word_at n t u v) 0) (v % word_bits) ≡ false
  word-lacks rs t u v s h k l m = day-has rs t u v s h k m ∙ to-false _ (λ e. omega (arith, (of-day n T (in_contact rs) t u v h k (in-test _ v e)).0))

  -- so the words of the logs' days at one place count the logs that have the contact
  module _ (t u v : ℕ) (h : t < T) (k : u < n) (m : v < capacity) (rest : List ℕ) where
    abbrev count : List (List Record) → ℕ
    count all = count_at (length all) (words_for n T) (days_of all ++ rest) (word_at n t u v) (v % word_bits)

    count-more : (rs : List Record) (all : List (List Record)) → Sized n T rs → count (rs ∷ all) ≡ digit (has (get_or (day_of rs) (word_at n t u v) 0) (v % word_bits)) + count all
    unfolding days_of
    count-more rs all z =
        ap (λ (w : List ℕ). count_at (suc (length all)) (words_for n T) w (word_at n t u v) (v % word_bits)) (append_assoc (day_of rs) (days_of all) rest)
        ∙ count-front (length all) (words_for n T) (day_of rs) (days_of all ++ rest) (word_at n t u v) (v % word_bits) (day-words n T rs z.badges z.ticks) (word-there h k m)

    count-heard : (all : List (List Record)) → AllSized n T all → v < n → count all ≡ heard_by all t u v
    unfolding heard_by count_at
    count-heard [] s l = refl
    count-heard (rs ∷ all) s l =
        let z = s rs (Memᴰ.head refl) in
        count-more rs all z ∙ ap₂ (λ (b : Bool) (c : ℕ). digit b + c) (word-has rs t u v z h k l) (count-heard all (λ x i. s x (Memᴰ.tail i)) l)

    count_none : (all : List (List Record)) → AllSized n T all → n ≤ v → count all ≡ 0
    unfolding count_at
    count_none [] s l = refl
    count_none (rs ∷ all) s l =
        let z = s rs (Memᴰ.head refl) in
        count-more rs all z ∙ ap₂ (λ (b : Bool) (c : ℕ). digit b + c) (word-lacks rs t u v z h k l m) (count_none all (λ x i. s x (Memᴰ.tail i)) l)

-- The first words are those of the day in which a pair is in contact where at least q logs have it so.
module _ (n T q : ℕ) (all : List (List Record)) (rest lent words : List ℕ) (few : n ≤ capacity) (sized : AllSized n T all) (some : 1 ≤ q)
    (enough : words_for n T ≤ length words) (fit : Words words) (c : Combined q (length all) (words_for n T) (days_of all ++ rest) lent words) where
  bit_at : (t u v : ℕ) (h : t < T) (k : u < n) (m : v < capacity) → has (neighbours n words t u) v ≡ leb q (count n T few t u v h k m rest all)
  bit_at t u v h k m = has-bit n T few words t u v fit enough h k m ∙ c.marks (word_at n t u v) (v % word_bits) (word-there h k m)

  heard-at : (t u v : ℕ) → t < T → u < n → v < n → has (neighbours n words t u) v ≡ quorum q all t u v
  unfolding quorum
  heard-at t u v h k l = let m : v < capacity = omega arith in bit_at t u v h k m ∙ ap (leb q) (count-heard n T few t u v h k m rest all sized l)

  lacks-at : (t u v : ℕ) → t < T → u < n → n ≤ v → v < capacity → has (neighbours n words t u) v ≡ false
  lacks-at t u v h k l m = bit_at t u v h k m ∙ ap (leb q) (count_none n T few t u v h k m rest all sized l) ∙ lt-leb q 0 some

  pub combined-day : words ≡ day_words n T (quorum q all) ++ drop (words_for n T) lent
  unfolding neighbours
  combined-day =
      sym (take-append-drop (words_for n T) words)
      ∙ ap₂ (λ (x y : List ℕ). x ++ y)
      (day-by n T (take (words_for n T) words) (quorum q all) few (length-take-le (words_for n T) words enough) (words_take (words_for n T) fit)
      (λ t u v h k i. of t u v h k (rw (neighbours-take n T words t u h k) at i) (dec_lt v n))
      (λ t u v h k l e. rw (neighbours-take n T words t u h k) (in-test _ v (heard-at t u v h k l ∙ e))))
      c.keeps
    where
      of : (t u v : ℕ) → t < T → u < n → In (neighbours n words t u) v → Dec (v < n) → (v < n) × (quorum q all t u v ≡ true)
      of t u v h k i (yes l) = (l, sym (heard-at t u v h k l) ∙ has-test _ v i)
      of t u v h k i (no f) =
          absurd (clash (has-test _ v i) (lacks-at t u v h k (omega (arith, f)) (in-lt capacity _ v (set-at-lt words (t * n + u) fit) i)))
