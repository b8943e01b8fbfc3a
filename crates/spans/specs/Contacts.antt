-- Sets of badges that stay in contact, in the words of demand 3 and of source 000: no graph, no rows and no core.
use Rattle.std.specs.Prelude.{List, ℕ, ◌≤◌, ◌<◌, eqb}
use Rattle.sets.specs.Bools.{◌and◌, isnt}
use Rattle.sets.specs.Sets.{In, Sub, filter, size}
use Rattle.spans.specs.Spans.{throughout}

-- the fellow members of u in s: the other members that are in contact with u in every tick of the span
unfoldable pub fellows : ℕ → List ℕ → ℕ → ℕ → ℕ → ℕ → ℕ
fellows n ws first last s u = filter (λ v. isnt (eqb v u) and throughout n ws first last u v) s

-- A set of order k on a span: a non-empty set of badges of a base set that "gives each member at least k fellow members in contact with it
-- in every tick of the span".
pub record OfOrder (n : ℕ) (ws : List ℕ) (base k first last s : ℕ) : Type 0 where
  pub within : Sub s base
  pub some : 0 < s
  pub each : (u : ℕ) → In s u → k ≤ size (fellows n ws first last s u)
