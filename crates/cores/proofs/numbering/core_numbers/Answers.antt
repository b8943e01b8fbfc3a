-- `numbering::core_numbers` meets its contract. Before a turn the numbers are those that look no further than the orders tried, and the
-- badges left have the same cores above them. The loop ends as the order rises, which is at most one above the capacity.
use mathlib.Core.Path.{◌≡◌, sym, ◌∙◌}
use Prim.Native.Nat.{◌+◌, ◌-◌, ◌<◌}
use native.Mathlib.Omega.{arith}
use borrow.Author.Rules.{rules}
use Rattle.sets.proofs.Pairs.{members-lt}
use borrow.Author.Tests.{eqb-true, eqb-false}
use Rattle.sets.specs.Members.{members}
use Rattle.cores.proofs.Levels.{Level, level-rises, level-le, among_none, among-level, among-more, numbers-none, numbers_more, numbers-done}
use Rattle.cores.proofs.numbering.core_numbers.Goals as goal
use Rattle.cores.proofs.numbering.core_numbers.Goals.{After-core-kept, Else-is_empty}

pub loop-rows-init : goal.loop-rows-init
loop-rows-init c = (search rules, search rules, among_none _ _ 0, numbers-none _ _)

-- the members of the core, and their least degree
level : (c : goal.After-core-kept) →
    let p = c.core-kept.result in Level c.args.rows (members c.args.base) (c.loop-rows.order - 1 + 1) (members p.members) p.least
level c = among-level _ (members-lt c.args.base (omega arith) (omega arith)) c.loop-rows.invariant.2 (omega arith) c.core-kept.ensures

-- there are members, where the loop goes on
some : (c : goal.Else-is_empty) → 0 < members c.core-kept.result.members
some c =
    let f = eqb-false (members c.core-kept.result.members) 0 (sym c.is_empty.ensures ∙ c.if-is_empty.false) in
    omega arith

pub returns-then-is_empty : goal.returns-then-is_empty
returns-then-is_empty c =
    c.loop-rows.invariant.3 ∙ numbers-done _ _ _ (sym (level (goal.at.returns-then-is_empty c).After-core-kept).found ∙ eqb-true _ _ (sym c.is_empty.ensures ∙ c.if-is_empty.true))

pub overflow_add-above : goal.overflow_add-above
overflow_add-above c = omega (arith, level-le (level (goal.at.overflow_add-above c).After-core-kept) (some (goal.at.overflow_add-above c).Else-is_empty))

pub overflow_cast-least : goal.overflow_cast-least
overflow_cast-least c = omega (arith, level-le (level (goal.at.overflow_cast-least c).After-core-kept) (some (goal.at.overflow_cast-least c).Else-is_empty))

pub loop-rows-smaller : goal.loop-rows-smaller
loop-rows-smaller c =
    let h = level (goal.at.loop-rows-smaller c).After-core-kept in
    omega (arith, level-rises h (some (goal.at.loop-rows-smaller c).Else-is_empty), level-le h (some (goal.at.loop-rows-smaller c).Else-is_empty))

pub loop-rows-preserved : goal.loop-rows-preserved
loop-rows-preserved c =
    let d = c.core-kept.result.least in
    let f : d + 1 - 1 ≡ d = omega arith in (
      omega arith,
      omega (arith, level-le (level (goal.at.loop-rows-preserved c).After-core-kept) (some (goal.at.loop-rows-preserved c).Else-is_empty)),
      rw f (among-more (level (goal.at.loop-rows-preserved c).After-core-kept) d (level-rises (level (goal.at.loop-rows-preserved c).After-core-kept) (some (goal.at.loop-rows-preserved c).Else-is_empty))),
      rw f (c.raise.ensures ∙ numbers_more _ _ _ (level (goal.at.loop-rows-preserved c).After-core-kept) (some (goal.at.loop-rows-preserved c).Else-is_empty) _ c.loop-rows.invariant.3),
    )
