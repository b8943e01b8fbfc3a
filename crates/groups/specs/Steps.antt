-- What the functions that work out a span's rows promise.
use Rattle.std.specs.Prelude.{◌≡◌, List, ℕ, suc, ◌+◌, ◌*◌, ◌≤◌, ◌<◌, length, get_or, take, drop}
use Rattle.sets.specs.Sets.{intersection}
use Rattle.sets.specs.Members.{capacity}
use Rattle.sets.specs.Words.{set_words, Words, set_at}
use Rattle.spans.specs.Spans.{span_words}

-- the words of tick t
unfoldable pub tick_of : ℕ → List ℕ → ℕ → List ℕ
tick_of n ws t = take (n * set_words) (drop (t * n * set_words) ws)

-- Rows are those of a span of some day's words, and the words of a tick are those of the tick after it: what a narrowing step is given.
pub record NextTick (rows tick : List ℕ) : Type 0 where
  pub badges : ℕ
  pub words : List ℕ
  pub first : ℕ
  pub last : ℕ
  pub few : badges ≤ capacity
  pub rising : first ≤ last
  pub span : rows ≡ span_words badges words first last
  pub next : tick ≡ tick_of badges words (suc last)
  pub whole : length tick ≡ badges * set_words
  pub fit : Words tick

-- What the step leaves: the rows of the span that is longer by this tick, whichever span the rows are of.
pub record Narrows (rows tick longer : List ℕ) : Type 0 where
  pub span : (s : NextTick rows tick) → longer ≡ span_words s.badges s.words s.first (suc s.last)

-- The words of rows and those of a tick have so many sets at least, and these a word at a place, their side.
pub record SideOf (rows tick : List ℕ) (side end : ℕ) : Type 0 where
  pub place : side < set_words
  pub enough : end * set_words ≤ length rows
  pub whole : end * set_words ≤ length tick

-- Of the rows of a range, its end left out, the word of one side is intersected with that of the tick; every other word stays.
pub record NarrowsSide (tick : List ℕ) (side start end : ℕ) (rows narrowed : List ℕ) : Type 0 where
  pub size : length narrowed ≡ length rows
  pub each : (u : ℕ) → start ≤ u → u < end → get_or narrowed (u * set_words + side) 0 ≡ intersection (get_or rows (u * set_words + side) 0) (get_or tick (u * set_words + side) 0)
  pub others : (i : ℕ) → ((u : ℕ) → start ≤ u → u < end → i ≡ u * set_words + side → ⊥) → get_or narrowed i 0 ≡ get_or rows i 0

-- rows of a span that starts with tick first, to a tick that is not after tick last
pub record RowsTo (n : ℕ) (ws : List ℕ) (first last : ℕ) (rows : List ℕ) (reached : ℕ) : Type 0 where
  pub low : first ≤ reached
  pub high : reached ≤ last
  pub are : rows ≡ span_words n ws first reached

-- words of rows in which those from n up are empty
pub record EmptyFrom (n : ℕ) (rows : List ℕ) : Type 0 where
  pub past : (u : ℕ) → n ≤ u → set_at rows u ≡ 0
