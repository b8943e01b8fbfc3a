-- `circle_in_words` meets its contract. Who is reached is joined to the smallest member, and who is reached and not on the frontier has no neighbour that is
-- unreached; where nobody is unreached, or nobody is on the frontier, the circle is reached. The walk ends as those on the frontier and unreached get fewer.
use mathlib.Core.Path.{◌≡◌, ap, ◌∙◌}
use Prim.Native.Nat.{ℕ}
use native.Mathlib.Omega.{arith}
use Rattle.sets.specs.Sets.{In, intersection}
use Rattle.sets.specs.Members.{capacity, members}
use Rattle.sets.proofs.Sets.{sub-lt}
use Rattle.sets.proofs.Pairs.{members-lt}
use Rattle.sets.proofs.Walks.{rest-is}
use Rattle.cores.specs.Rows.{graph}
use Rattle.circles.proofs.Walking.{walk_start, walk_more, walk-less, walk_first, walk-all, some-open, none_open}
use Rattle.circles.proofs.circle_in_words.Goals as goal
use Rattle.circles.proofs.circle_in_words.Goals.{After-intersection-met, After-smallest-u}

-- the badge at hand is on the frontier
at-hand : (i : goal.After-smallest-u) → In (members i.loop-unreached.frontier) i.smallest-u.result
at-hand i =
    let wide = members-lt i.args.s (omega arith) (omega arith) in
    (some-open (sub-lt capacity _ _ i.loop-unreached.invariant.subset wide) i.is_empty-in-loop-unreached.ensures i.if-is_empty-2.false i.smallest-u.ensures).0

pub loop-unreached-init : goal.loop-unreached-init
loop-unreached-init c = rw (c.difference-frontier.ensures, c.rest-unreached.ensures) (walk_start _ _ _)

pub returns-then-is_empty : goal.returns-then-is_empty
returns-then-is_empty c = walk-all c.loop-unreached.invariant (none_open c.is_empty.ensures c.if-is_empty.true)

pub returns-then-is_empty-2 : goal.returns-then-is_empty-2
returns-then-is_empty-2 c =
    c.difference.ensures ∙ walk_first c.loop-unreached.invariant (none_open c.is_empty-in-loop-unreached.ensures c.if-is_empty-2.true)

-- its neighbours that are unreached, those unreached after its turn, and those on the frontier then
met-is : (c : goal.After-intersection-met) →
    members c.intersection-met.result ≡ intersection (graph c.args.rows.now c.smallest-u.result) (members c.loop-unreached.unreached)
met-is c =
    c.intersection-met.ensures ∙ ap (λ (x : ℕ). intersection x (members c.loop-unreached.unreached)) c.set_at.ensures

pub loop-unreached-smaller : goal.loop-unreached-smaller
loop-unreached-smaller c =
    rw (c.union-frontier.ensures, c.difference-unreached.ensures, met-is (goal.at.loop-unreached-smaller c).After-intersection-met, rest-is capacity _ c.smallest-u.ensures c.rest.ensures) (walk-less c.loop-unreached.invariant c.smallest-u.result (at-hand (goal.at.loop-unreached-smaller c).After-smallest-u))

pub loop-unreached-preserved : goal.loop-unreached-preserved
loop-unreached-preserved c =
    rw (c.union-frontier.ensures, c.difference-unreached.ensures, met-is (goal.at.loop-unreached-preserved c).After-intersection-met, rest-is capacity _ c.smallest-u.ensures c.rest.ensures) (walk_more c.loop-unreached.invariant c.smallest-u.result (at-hand (goal.at.loop-unreached-preserved c).After-smallest-u))
