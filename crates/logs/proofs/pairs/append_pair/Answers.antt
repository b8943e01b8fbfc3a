-- append_pair meets its contract: the runs that end before the tick at hand are appended, and a run starts with this tick, or there is none
-- from it on. The loop ends as the tick grows.
use Prim.Native.Nat.{◌<◌}
use native.Mathlib.Omega.{arith}
use Rattle.logs.specs.TickSets.{tick_capacity, has_tick}
use Rattle.logs.proofs.PairRuns.{RunTo, from_start, from_end, run-to}
use Rattle.logs.proofs.Appending.{appends-none, runs_none, runs-more, runs-many, runs-all}
use Rattle.logs.proofs.pairs.append_pair.Goals as goal
use Rattle.logs.proofs.pairs.append_pair.Goals.{After-first_outside-end}

-- the run at hand
here : (c : goal.After-first_outside-end) →
    let a = c.args in RunTo a.ticks (has_tick a.met) c.loop-first.first c.first_outside-end.result
here c =
    let l : c.args.ticks < tick_capacity = omega arith in
    run-to _ _ l c.requires.4.at c.loop-first.invariant.1 c.loop-first-test.true c.first_outside-end.ensures

pub loop-first-init : goal.loop-first-init
loop-first-init c =
    let f = c.first_in-first.ensures in
    let l : c.args.ticks < tick_capacity = omega arith in
    (f.high, from_start _ _ l f, rw (runs_none c.args.ticks (has_tick c.args.met) c.args.u c.args.v f) (appends-none _ _ (omega arith)))

pub overflow_sub-last : goal.overflow_sub-last
overflow_sub-last c = omega (arith, (here (goal.at.overflow_sub-last c).After-first_outside-end).rising)

pub overflow_cast-last : goal.overflow_cast-last
overflow_cast-last c = omega (arith, (here (goal.at.overflow_cast-last c).After-first_outside-end).inside)

pub append_contact-requires : goal.append_contact-requires
append_contact-requires c = c.loop-first.invariant.2.few

pub first_in-first-requires-in-loop-first : goal.first_in-first-requires-in-loop-first
first_in-first-requires-in-loop-first c = omega (arith, (here (goal.at.first_in-first-requires-in-loop-first c).After-first_outside-end).inside)

pub loop-first-smaller : goal.loop-first-smaller
loop-first-smaller c =
    let r = here (goal.at.loop-first-smaller c).After-first_outside-end in
    omega (arith, r.rising, r.inside, c.first_in-first-in-loop-first.ensures.low, c.first_in-first-in-loop-first.ensures.high)

pub loop-first-preserved : goal.loop-first-preserved
loop-first-preserved c =
    let o = (goal.at.loop-first-preserved c).After-first_outside-end in
    let i = o.loop-first.invariant in
    let l : c.args.ticks < tick_capacity = omega arith in
    let f = c.first_in-first-in-loop-first.ensures in
    (f.high, from_end _ _ l (here o) f, runs-more c.args.ticks (has_tick c.args.met) c.args.u c.args.v (here o) f i.2 c.in_ok-so_far.ensures)

pub returns-in_err-so_far : goal.returns-in_err-so_far
returns-in_err-so_far c =
    let a = c.args in
    let o = (goal.at.returns-in_err-so_far c).After-first_outside-end in
    rw c.from_residual.ensures (runs-many a.ticks (has_tick a.met) a.u a.v (here o) o.loop-first.invariant.2 c.in_err-so_far.ensures)

pub returns : goal.returns
returns c =
    let e = runs-all c.args.ticks (has_tick c.args.met) c.args.u c.args.v c.requires.4.at c.loop-first-test.false in
    rw e at c.loop-first.invariant.2
