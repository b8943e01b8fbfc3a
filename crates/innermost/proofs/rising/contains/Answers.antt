-- `rising::contains` meets its contract: an empty set fails the first test, and of every other set the second decides.
use mathlib.Core.Bool.{Bool, false}
use mathlib.Core.Path.{◌≡◌, sym, ◌∙◌}
use Prim.Native.Nat.{ℕ}
use native.Mathlib.Omega.{arith}
use lib.Dec.{ltb}
use borrow.Author.Tests.{eqb-true, eqb-false, lt-ltb, le-ltb}
use Rattle.sets.specs.Bools.{◌and◌}
use Rattle.sets.specs.Members.{members}
use Rattle.innermost.proofs.rising.contains.Goals as goal

-- a set that is empty, or not, with any second test
none : (s : ℕ) (b : Bool) → s ≡ 0 → false ≡ (ltb 0 s and b)
unfolding ◌and◌
none s b e = rw (le-ltb 0 s (omega arith))

present : (s : ℕ) (b : Bool) → (s ≡ 0 → ⊥) → b ≡ (ltb 0 s and b)
unfolding ◌and◌
present s b f = rw (lt-ltb 0 s (omega arith))

pub returns-then-not-is_empty : goal.returns-then-not-is_empty
returns-then-not-is_empty c = c.is_subset.ensures ∙ present (members c.args.s) _ (eqb-false _ _ (sym c.is_empty.ensures ∙ c.if-not-is_empty.true))

pub returns-else-not-is_empty : goal.returns-else-not-is_empty
returns-else-not-is_empty c =
    let t = c.if-not-is_empty.false in
    rw t (none (members c.args.s) _ (eqb-true _ _ (sym c.is_empty.ensures ∙ t)))
