-- What each step of counting receivers leaves. Private functions cite these; no promise rests on them.
use Rattle.std.specs.Prelude.{List, ◌≢◌, ◌≡◌, ℕ, zero, suc, ◌+◌, ◌*◌, ◌≤◌, ◌<◌, leb, get_or, drop}
use Rattle.sets.specs.Sets.{has, digit, union, intersection}

-- word i of part j, where every part has so many words
abbrev pub word : ℕ → List ℕ → ℕ → ℕ → ℕ
word size ws j i = get_or ws (j * size + i) 0

-- how many of the first m parts have badge v in word i
unfoldable pub count_at : ℕ → ℕ → List ℕ → ℕ → ℕ → ℕ
count_at zero size ws i v = 0
count_at (suc m) size ws i v = count_at m size ws i v + digit (has (word size ws m i) v)

-- Two parts are exchanged in their first so many words: the first has what one of them had or both, the second what both had.
pub record Exchanged (first second count : ℕ) (lent work : List ℕ) : Type 0 where
  pub either : (i : ℕ) → i < count → get_or work (first + i) 0 ≡ union (get_or lent (first + i) 0) (get_or lent (second + i) 0)
  pub both : (i : ℕ) → i < count → get_or work (second + i) 0 ≡ intersection (get_or lent (first + i) 0) (get_or lent (second + i) 0)
  pub others : (n : ℕ) → ((i : ℕ) → i < count → (n ≢ first + i) × (n ≢ second + i)) → get_or work n 0 ≡ get_or lent n 0

-- The first k parts are sorted: part j has the badges that at least j + 1 of them have. The words after them are as they were lent.
pub record Sorted (k size : ℕ) (lent work : List ℕ) : Type 0 where
  pub ranks : (j : ℕ) → j < k → (i v : ℕ) → i < size → has (word size work j i) v ≡ leb (suc j) (count_at k size lent i v)
  pub keeps : (n : ℕ) → k * size ≤ n → get_or work n 0 ≡ get_or lent n 0

-- The first so many words are those of the work words from a place on, and the others are as they were lent.
pub record Copied (from count : ℕ) (work lent words : List ℕ) : Type 0 where
  pub same : (i : ℕ) → i < count → get_or words i 0 ≡ get_or work (from + i) 0
  pub keeps : (n : ℕ) → count ≤ n → get_or words n 0 ≡ get_or lent n 0

-- The first words of a part's size hold the quorum of m parts, and the others are as they were lent.
pub record Combined (q m size : ℕ) (work lent words : List ℕ) : Type 0 where
  pub marks : (i v : ℕ) → i < size → has (get_or words i 0) v ≡ leb q (count_at m size work i v)
  pub keeps : drop size words ≡ drop size lent
