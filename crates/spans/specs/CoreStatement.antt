-- The group statement as it was before cores were split, over any list of groups, whole cores: "a core's records then count as one group, whose members
-- are those of its circles together", and of these groups it still holds. It speaks of days, ticks, spans, badge sets and thresholds alone.
use Rattle.std.specs.Prelude.{List, ◌∷◌, ◌++◌, ◌↔◌, ◌≡◌, ℕ, ◌≤◌, ◌<◌}
use Rattle.sets.specs.Sets.{Sub, size}
use Rattle.thresholds.specs.declared.Thresholds.{Thresholds}
use Rattle.spans.specs.Spans.{span_ticks}
use Rattle.spans.specs.Contacts.{OfOrder}
use Rattle.spans.specs.SpanCores.{SpanCore, Mem}
use Rattle.spans.specs.GroupStatement.{Unsurpassed}

-- what the thresholds ask of an order and a span: the span is long enough, the order is high enough, and some set of this order on it has members
-- enough
pub record LargeEnough (n : ℕ) (ws : List ℕ) (base : ℕ) (least : Thresholds) (k first last : ℕ) : Type 0 where
  pub long : least.ticks ≤ span_ticks first last
  pub high : least.order ≤ k
  pub many : (s : ℕ) × OfOrder n ws base k first last s × (least.members ≤ size s)

-- a record of a given order and span
pub record Has (c : SpanCore) (k first last : ℕ) : Type 0 where
  pub its_order : c.order ≡ k
  pub its_first : c.first ≡ first
  pub its_last : c.last ≡ last

-- "The group statement is then about the records that pass."
pub record CoreStatement (n T : ℕ) (ws : List ℕ) (base : ℕ) (least : Thresholds) (groups : List SpanCore) : Type 0 where
  -- every record has an order of at least 1 and a span of the day
  pub order : (c : SpanCore) → Mem c groups → 1 ≤ c.order
  pub span : (c : SpanCore) → Mem c groups → (c.first ≤ c.last) × (c.last < T)
  -- "the report has on that span a group of order k .. exactly when" the span and order are unsurpassed, and pass,
  pub exactly : (k first last : ℕ) → 1 ≤ k → first ≤ last → last < T
      → ((c : SpanCore) × Mem c groups × Has c k first last) ↔ (Unsurpassed n T ws base k first last × LargeEnough n ws base least k first last)
  -- "and then just one": no two records have the same order and span
  pub once : (xs ys zs : List SpanCore) (c d : SpanCore) → groups ≡ xs ++ (c ∷ (ys ++ (d ∷ zs))) → Has c d.order d.first d.last → ⊥
  -- "The members shown are such a set and hold every other such set."
  pub members : (c : SpanCore) → Mem c groups → OfOrder n ws base c.order c.first c.last c.members
  pub largest : (c : SpanCore) (s : ℕ) → Mem c groups → OfOrder n ws base c.order c.first c.last s → Sub s c.members
