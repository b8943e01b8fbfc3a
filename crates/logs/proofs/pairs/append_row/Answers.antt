-- append_row meets its contract: before badge v of the loop the runs of u and the larger badges before v are appended. The ticks that
-- the columns give for u and v are those of the day in which they meet.
use mathlib.Core.Path.{◌≡◌, refl}
use Prim.Native.Nat.{ℕ, ◌<◌}
use native.Mathlib.Omega.{arith}
use lib.ListN.{get_or}
use borrow.Author.Rules.{rules}
use Rattle.days.specs.Days.{adjacent}
use Rattle.logs.specs.Tidy.{row_runs}
use Rattle.logs.specs.TickSets.{has_tick, TicksBelow}
use Rattle.logs.specs.declared.ticks.TickSet.{TickSet}
use Rattle.logs.proofs.Gathering.{tick-in, tick-below}
use Rattle.logs.proofs.PairRuns.{runs_same}
use Rattle.logs.proofs.Appending.{appends-none, row-none, row_more, row-many}
use Rattle.logs.proofs.pairs.append_row.Goals as goal
use Rattle.logs.proofs.pairs.append_row.Goals.{In-loop-v}

-- the ticks of u and v
abbrev met : goal.In-loop-v → TickSet
met c =
    record { low = get_or c.gather_columns.new.columns c.loop-v.v 0; high = get_or c.gather_columns-2.new.columns c.loop-v.v 0 }

met-below : (c : goal.In-loop-v) → TicksBelow c.args.day.now.ticks (met c)
met-below c =
    let a = c.args in
    tick-below a.day.now.badges a.day.now.ticks a.day.now.words.now a.u c.loop-v.v (met c) (omega arith) (omega arith) (omega arith) c.gather_columns.ensures c.gather_columns-2.ensures refl refl

met-in : (c : goal.In-loop-v) →
    let a = c.args in (t : ℕ) → t < a.day.now.ticks → has_tick (met c) t ≡ adjacent a.day.now.badges a.day.now.words.now t a.u c.loop-v.v
met-in c =
    let a = c.args in
    tick-in a.day.now.badges a.day.now.ticks a.day.now.words.now a.u c.loop-v.v (met c) (omega arith) (omega arith) (omega arith) c.gather_columns.ensures c.gather_columns-2.ensures refl refl

pub loop-v-init : goal.loop-v-init
loop-v-init c =
    let a = c.args in
    (search rules, search rules, rw (row-none a.day.now.ticks (adjacent a.day.now.badges a.day.now.words.now) a.u) (appends-none _ _ (omega arith)))

pub append_pair-requires : goal.append_pair-requires
append_pair-requires c = (
  c.loop-v.invariant.2.few,
  search rules,
  search rules,
  search rules,
  met-below (goal.at.append_pair-requires c).In-loop-v,
)

pub loop-v-preserved : goal.loop-v-preserved
loop-v-preserved c =
    let e = (goal.at.loop-v-preserved c).In-loop-v in
    let i = e.loop-v in
    let a = e.args in
    let r = adjacent a.day.now.badges a.day.now.words.now in
    let same = runs_same a.day.now.ticks (has_tick (met e)) (λ t. r t a.u i.v) (met-in e) a.u i.v in
    (search rules, search rules, row_more a.day.now.ticks r a.u i.v (omega arith) i.invariant.2 (rw same at c.in_ok-so_far.ensures))

pub returns-in_err-so_far : goal.returns-in_err-so_far
unfolding row_runs
returns-in_err-so_far c =
    let e = (goal.at.returns-in_err-so_far c).In-loop-v in
    let i = e.loop-v in
    let a = e.args in
    let r = adjacent a.day.now.badges a.day.now.words.now in
    let same = runs_same a.day.now.ticks (has_tick (met e)) (λ t. r t a.u i.v) (met-in e) a.u i.v in
    rw c.from_residual.ensures (row-many a.day.now.ticks r a.u i.v (omega arith) a.day.now.badges (omega arith) i.invariant.2 (rw same at c.in_err-so_far.ensures))

pub returns : goal.returns
unfolding row_runs
returns c =
    let e : c.loop-v.v ≡ c.args.day.now.badges = omega (arith, c.loop-v-test.false) in
    rw e at c.loop-v.invariant.2
