-- `rising::settle` meets its contract: what is left holds the core and the query, with its in-degrees counted, and fewer are left after each turn.
use mathlib.Core.Path.{sym, ◌∙◌}
use Prim.Native.Nat.{◌^◌, ◌<◌}
use native.Mathlib.Omega.{arith}
use borrow.Author.Tests.{eqb-true, eqb-false}
use Rattle.sets.specs.Members.{capacity, members}
use Rattle.sets.proofs.Pairs.{members-lt}
use Rattle.cores.specs.Rows.{graph}
use Rattle.innermost.specs.Columns.{transposed}
use Rattle.cores.proofs.Peelings.{Peeling}
use Rattle.innermost.proofs.CountedDegrees.{counting-less}
use Rattle.innermost.proofs.Settling.{settling-start, low-sub, settling-less, settling-falls, settling-end, too_few, query-lost, still-contained}
use Rattle.innermost.proofs.rising.settle.Goals as goal
use Rattle.innermost.proofs.rising.settle.Goals.{After-difference-fewer, At-loop-query, then-size-k-via-then-size-k, then-size-k-via-else-size-k+then-not-is_subset}

pub loop-query-init : goal.loop-query-init
loop-query-init c = (settling-start c.requires.counted.2, c.requires.contained)

-- the set at the start is one that a word holds
wide : (l : goal.At-loop-query) → members l.args.given.members < 2 ^ capacity
wide l = members-lt l.args.given.members (omega arith) (omega arith)

-- what is left without them holds the core
less : (d : goal.After-difference-fewer) →
    let a = d.args in
    Peeling (transposed (graph a.rows.now) (members a.given.members)) (members a.given.members) a.k (members d.difference-fewer.result)
less d =
    let known = members-lt d.args.given.members (omega arith) (omega arith) in
    rw d.difference-fewer.ensures (settling-less known d.loop-query.invariant.0 d.below.ensures d.intersection-low.ensures)

pub returns-then-is_empty : goal.returns-then-is_empty
returns-then-is_empty c =
    let i = c.loop-query.invariant in
    settling-end (wide (goal.at.returns-then-is_empty c).At-loop-query) i.0 c.below.ensures c.intersection-low.ensures _ (eqb-true _ _ (sym c.is_empty.ensures ∙ c.if-is_empty.true)) i.1

pub returns-then-size-k : goal.returns-then-size-k
returns-then-size-k c =
    let peeled = less (goal.at.returns-then-size-k c).After-difference-fewer in
    let rows = graph c.args.rows.now in
    elim c.then-size-k.branch [
      | then-size-k-via-then-size-k w ↦ too_few rows peeled _ (rw c.size.ensures at w.if-size-k.true)
      | then-size-k-via-else-size-k+then-not-is_subset w ↦ query-lost rows peeled _ (sym w.is_subset.ensures ∙ w.if-not-is_subset.true)
    ]

pub loop-query-smaller : goal.loop-query-smaller
loop-query-smaller c =
    rw c.difference-fewer.ensures
    (settling-falls (wide (goal.at.loop-query-smaller c).At-loop-query) c.loop-query.invariant.0 c.below.ensures c.intersection-low.ensures (eqb-false _ _ (sym c.is_empty.ensures ∙ c.if-is_empty.false)))

pub loop-query-preserved : goal.loop-query-preserved
loop-query-preserved c =
    let i = c.loop-query.invariant.0 in
    let part = low-sub (wide (goal.at.loop-query-preserved c).At-loop-query) i c.below.ensures c.intersection-low.ensures in (
      record {
        peeling = less (goal.at.loop-query-preserved c).After-difference-fewer;
        counting = rw c.difference-fewer.ensures (counting-less i.counting c.requires.counted.1 part (rw c.difference-fewer.ensures at c.discount.ensures));
      },
      still-contained _ _ c.requires.counted.0 (omega (arith, c.size.ensures)) (sym c.is_subset.ensures ∙ c.if-not-is_subset.false),
    )
