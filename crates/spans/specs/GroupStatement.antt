-- Demand 3, first half, with circles: the group statement, over any list of records, and which reports may be asked for. It speaks of days, ticks, spans,
-- badge sets, chains and thresholds alone. "Each set in the group statement is then one of reviewed badges alone": base is the set under review.
use Rattle.std.specs.Prelude.{true, List, ◌∷◌, ◌++◌, ◌↔◌, ◌≡◌, ℕ, ◌≤◌, ◌<◌}
use Rattle.sets.specs.Sets.{Sub, size, smallest}
use Rattle.sets.specs.Members.{capacity}
use Rattle.sets.specs.Tables.{Pairwise}
use Rattle.days.specs.Days.{LentDay}
use Rattle.circles.specs.Chains.{IsCircle}
use Rattle.thresholds.specs.declared.Thresholds.{Thresholds}
use Rattle.thresholds.specs.Ranges.{in_range}
use Rattle.spans.specs.Spans.{span_ticks}
use Rattle.spans.specs.Contacts.{fellows, OfOrder}
use Rattle.spans.specs.Reviews.{Review}
use Rattle.spans.specs.SpanCores.{SpanCore, Mem}

-- "some non-empty badge set gives each member at least k fellow members in contact with it in every tick of the span, and no non-empty set
-- does so for an order at least k and a span including this one, order or span being larger"
pub record Unsurpassed (n T : ℕ) (ws : List ℕ) (base k first last : ℕ) : Type 0 where
  pub some : (s : ℕ) × OfOrder n ws base k first last s
  pub none : (k' first' last' s : ℕ) → k ≤ k' → first' ≤ first → last ≤ last' → last' < T → OfOrder n ws base k' first' last' s
      → (k' ≡ k) × (first' ≡ first) × (last' ≡ last)

-- s is such a set of order k, and holds every other
pub record LargestOfOrder (n : ℕ) (ws : List ℕ) (base k first last s : ℕ) : Type 0 where
  pub order : OfOrder n ws base k first last s
  pub holds : (t : ℕ) → OfOrder n ws base k first last t → Sub t s

-- c is one of the circles of that set: "its members split by who is joined to whom through chains of the span's pairs between members". The
-- pairs are those of fellow members, in contact in every tick of the span.
pub record CircleOn (n : ℕ) (ws : List ℕ) (base k first last c : ℕ) : Type 0 where
  pub group : ℕ
  pub largest : LargestOfOrder n ws base k first last group
  pub circle : IsCircle (fellows n ws first last group) group c

-- A record of order k, a span and members c is to be there: order and span are unsurpassed and enough for the thresholds, and c is a circle with members
-- enough. "Domination is still by order and span of the whole core. Least members is counted per circle."
pub record Reportable (n T : ℕ) (ws : List ℕ) (base : ℕ) (least : Thresholds) (k first last c : ℕ) : Type 0 where
  pub unsurpassed : Unsurpassed n T ws base k first last
  pub long : least.ticks ≤ span_ticks first last
  pub high : least.order ≤ k
  pub circle : CircleOn n ws base k first last c
  pub many : least.members ≤ size c

-- "ordered by first tick, last tick, smallest member"
pub data Before (c d : SpanCore) : Type 0 where
  by_first : c.first < d.first → Before c d
  by_last : c.first ≡ d.first → c.last < d.last → Before c d
  by_member : c.first ≡ d.first → c.last ≡ d.last → smallest capacity c.members < smallest capacity d.members → Before c d

pub record GroupStatement (n T : ℕ) (ws : List ℕ) (base : ℕ) (least : Thresholds) (records : List SpanCore) : Type 0 where
  -- every record has an order of at least 1 and a span of the day
  pub order : (c : SpanCore) → Mem c records → 1 ≤ c.order
  pub span : (c : SpanCore) → Mem c records → (c.first ≤ c.last) × (c.last < T)
  -- a record is there exactly when it is to be there,
  pub exactly : (k first last c : ℕ) → 1 ≤ k → first ≤ last → last < T
      → Mem (record { order = k; first = first; last = last; members = c }) records ↔ Reportable n T ws base least k first last c
  -- none of them twice,
  pub once : (xs ys zs : List SpanCore) (c d : SpanCore) → records ≡ xs ++ (c ∷ (ys ++ (d ∷ zs))) → c ≡ d → ⊥
  -- in order: each comes before all that follow it
  pub sorted : Pairwise Before records

-- a lent day, a non-empty set of its badges, and thresholds within their ranges
pub record ReportAsked (n T : ℕ) (ws : List ℕ) (base : ℕ) (least : Thresholds) : Type 0 where
  pub lent : LentDay n T ws
  pub reviewed : Review n base
  pub range : in_range least ≡ true
