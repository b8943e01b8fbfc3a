-- Demand 3, second half, with request Three: the plan statement, over any list of parts, and which plans may be asked for. It speaks of days, ticks,
-- runs, badge sets, least degrees, sums and the order of lists alone. "A plan is compared only with cuttings whose sets hold reviewed badges alone":
-- base is the set under review.
use Rattle.std.specs.Prelude.{List, [], ◌∷◌, map, ◌≡◌, ℕ, suc, ◌+◌, ◌≤◌, ◌<◌}
use Rattle.sets.specs.Sets.{In, Sub, size}
use Rattle.days.specs.Days.{LentDay}
use Rattle.cuts.specs.Cuttings.{ComesBefore}
use Rattle.spans.specs.Contacts.{fellows}
use Rattle.spans.specs.Reviews.{Review}
use Rattle.spans.specs.SpanCores.{SpanCore, Mem}

-- d is the least degree of a set on a run: the smallest number of fellow members of a member, in contact with it in every tick of the run
pub record LeastOn (n : ℕ) (ws : List ℕ) (first last s d : ℕ) : Type 0 where
  pub each : (u : ℕ) → In s u → d ≤ size (fellows n ws first last s u)
  pub attained : (u : ℕ) × In s u × (size (fellows n ws first last s u) ≡ d)

-- h runs that lie end to end, each of at least one tick, from tick t to tick T - 1
pub data Runs (T : ℕ) : ℕ → ℕ → List SpanCore → Type 0 where
  none : Runs T 0 T []
  run : {h : ℕ} {p : SpanCore} {ps : List SpanCore} → p.first ≤ p.last → Runs T h (suc p.last) ps → Runs T (suc h) p.first (p ∷ ps)

-- A cutting of the day into h runs, with a non-empty set of badges of the base in each that holds the query, and its least degree there.
pub record CuttingWithSets (n T : ℕ) (ws : List ℕ) (base query h : ℕ) (parts : List SpanCore) : Type 0 where
  pub runs : Runs T h 0 parts
  pub within : (p : SpanCore) → Mem p parts → Sub p.members base
  pub some : (p : SpanCore) → Mem p parts → 0 < p.members
  pub holds : (p : SpanCore) → Mem p parts → Sub query p.members
  pub least : (p : SpanCore) → Mem p parts → LeastOn n ws p.first p.last p.members p.order

unfoldable pub sum_of_orders : List SpanCore → ℕ
sum_of_orders [] = 0
sum_of_orders (p ∷ ps) = p.order + sum_of_orders ps

-- the list of part ends: "part ends" are last ticks
abbrev pub part_ends : List SpanCore → List ℕ
part_ends parts = map (λ (p : SpanCore). p.last) parts

-- "our plan cuts the day into h runs; each score is the least degree, on its run, of the set of members shown, which holds the query; and
-- every cutting of the day into h runs, with any non-empty set holding the query in each, has a sum of least degrees no larger than the sum
-- of our scores"; and "the plan shall be the one whose list of part ends comes first, compared number by number, among all plans of greatest sum"
pub record PlanStatement (n T : ℕ) (ws : List ℕ) (base query h : ℕ) (parts : List SpanCore) : Type 0 where
  pub cutting : CuttingWithSets n T ws base query h parts
  pub greatest : (others : List SpanCore) → CuttingWithSets n T ws base query h others → sum_of_orders others ≤ sum_of_orders parts
  pub first : (others : List SpanCore) → CuttingWithSets n T ws base query h others → sum_of_orders others ≡ sum_of_orders parts
      → ComesBefore (part_ends others) (part_ends parts) → ⊥

-- a lent day, a non-empty set of its badges, "every h from 1 to the number of ticks and every query" "of reviewed badges"
pub record PlanAsked (n T : ℕ) (ws : List ℕ) (base query h : ℕ) : Type 0 where
  pub lent : LentDay n T ws
  pub reviewed : Review n base
  pub named : Sub query base
  pub some : 1 ≤ h
  pub enough : h ≤ T
