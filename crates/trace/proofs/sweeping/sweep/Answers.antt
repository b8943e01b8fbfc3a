-- `sweep` meets its contract: before the turn of tick t the ticks from the start tick to the one before it are swept.
use mathlib.Core.Path.{◌≡◌, sym, ap, ◌∙◌}
use Prim.Native.Nat.{ℕ, ◌+◌, ◌*◌, ◌≤◌}
use native.Mathlib.Omega.{arith}
use lib.ListN.{length, replicate, length-replicate}
use Rattle.sets.specs.Members.{capacity}
use Rattle.sets.specs.Words.{places, from_words}
use Rattle.records.specs.Limits.{max_ticks}
use Rattle.chains.specs.Traces.{never}
use Rattle.chains.proofs.Judging.{start-few}
use Rattle.trace.proofs.SweepSteps.{sweeping-none, sweeping-room, sweeping-long, sweeping-more, sweeping-done}
use Rattle.trace.proofs.sweeping.sweep.Goals as goal
use Rattle.trace.proofs.sweeping.sweep.Goals.{After-clear, In-loop-t}

-- before the loop every byte says that nobody is reached
cleared : (c : goal.After-clear) → let a = c.args in c.clear.new.trace ≡ replicate (a.n + a.n) never
cleared c = c.clear.ensures ∙ ap (λ (k : ℕ). replicate k never) c.requires.1

pub overflow_cast-trace : goal.overflow_cast-trace
overflow_cast-trace c = let d = c.requires.0 in omega (arith, d.tick, (start-few d).1)

pub bounds-trace-index : goal.bounds-trace-index
bounds-trace-index c =
    let k = (goal.at.bounds-trace-index c).After-clear in
    omega (arith, c.requires.0.badge, ap length (cleared k) ∙ length-replicate (c.args.n + c.args.n) never)

pub loop-t-init : goal.loop-t-init
unfolding from_words
loop-t-init c = sweeping-none c.requires.0 (start-few c.requires.0).0 c.with-passing.ensures (cleared (goal.at.loop-t-init c).After-clear)

-- the words of the tick are among the words
inside : (c : goal.In-loop-t) → let a = c.args in c.loop-t.t * a.n + a.n ≤ places a.words.now
inside c = sweeping-room c.loop-t.invariant c.loop-t-test.true

few : (c : goal.In-loop-t) → let a = c.args in (a.n ≤ capacity) × (a.ticks ≤ max_ticks)
few c = start-few c.loop-t.invariant.asked

pub overflow_mul-t : goal.overflow_mul-t
overflow_mul-t c = omega (arith, inside (goal.at.overflow_mul-t c).In-loop-t)

pub overflow_cast-t : goal.overflow_cast-t
overflow_cast-t c = omega (arith, (few (goal.at.overflow_cast-t c).In-loop-t).1, c.loop-t-test.true)

pub pass_tick-passing-requires : goal.pass_tick-passing-requires
pass_tick-passing-requires c = let l = (goal.at.pass_tick-passing-requires c).In-loop-t in ((few l).0, inside l, sweeping-long l.loop-t.invariant)

pub loop-t-preserved : goal.loop-t-preserved
loop-t-preserved c = sweeping-more c.loop-t.invariant c.loop-t-test.true c.pass_tick-passing.ensures

pub shape_of-trace : goal.shape_of-trace
shape_of-trace c = sweeping-long c.loop-t.invariant ∙ sym c.requires.1

pub returns : goal.returns
returns c = sweeping-done c.loop-t.invariant c.loop-t-test.false
