-- `encode_plan` meets its contract: before the turn of part i the parts before it are appended, and it starts after the end of the last.
use mathlib.Core.Path.{ap}
use Prim.Native.Nat.{ℕ, ◌+◌, ◌*◌, ◌≤◌, ◌<◌, zero-le}
use native.Mathlib.Omega.{arith}
use Rattle.records.specs.Limits.{max_ticks}
use Rattle.records.proofs.WithinLimits.{limits_of}
use Rattle.spans.specs.Encoding.{Form, core_bytes}
use Rattle.groups.proofs.Appended.{short-records}
use Rattle.groups.proofs.PlanBytes.{parts-few, plan-none, plan-few, plan-inside, plan-place, plan-score, plan-room, plan-next, plan-end}
use Rattle.groups.proofs.planning.encode_plan.Goals as goal
use Rattle.groups.proofs.planning.encode_plan.Goals.{After-form_of-form, After-from-last, After-loop-i}

pub overflow_cast-header : goal.overflow_cast-header
overflow_cast-header c = omega (arith, (limits_of c.args.day.now.lent.limits).few)

pub overflow_cast-header-2 : goal.overflow_cast-header-2
overflow_cast-header-2 c = omega (arith, (limits_of c.args.day.now.lent.limits).short)

pub overflow_cast-header-3 : goal.overflow_cast-header-3
overflow_cast-header-3 c = omega (arith, parts-few c.requires)

-- few records have few bytes
short : (c : goal.After-form_of-form) {count : ℕ} → count ≤ max_ticks → (c.form_of-form.result.width ≤ 16) × (core_bytes c.form_of-form.result.width * count ≤ 2016)
short c few = short-records c.args.day.now.badges (ap (λ (f : Form). f.set_bytes) c.form_of-form.ensures) few

pub put_core-requires : goal.put_core-requires
put_core-requires c = (short (goal.at.put_core-requires c).After-form_of-form {count = 0} zero-le).0

pub overflow_add-record : goal.overflow_add-record
overflow_add-record c = omega (arith, (short (goal.at.overflow_add-record c).After-form_of-form {count = 0} zero-le).0)

pub loop-i-init : goal.loop-i-init
loop-i-init c = plan-none (omega arith) c.requires

pub bounds-ends-i : goal.bounds-ends-i
bounds-ends-i c = omega (arith, parts-few c.loop-i.invariant.asked, c.loop-i-test.true)

-- the place of the run's score in the table
place : (c : goal.After-from-last) → c.loop-i.first * max_ticks + c.from-last.result < max_ticks * max_ticks
place c = rw c.from-last.ensures (plan-place c.loop-i.invariant c.loop-i-test.true (limits_of c.args.day.now.lent.limits).short)

pub overflow_mul-score : goal.overflow_mul-score
overflow_mul-score c = omega (arith, place (goal.at.overflow_mul-score c).After-from-last)

pub overflow_add-score : goal.overflow_add-score
overflow_add-score c = omega (arith, place (goal.at.overflow_add-score c).After-from-last)

pub bounds-scores-first : goal.bounds-scores-first
bounds-scores-first c = omega (arith, place (goal.at.bounds-scores-first c).After-from-last)

pub append_part-count-requires : goal.append_part-count-requires
append_part-count-requires c =
    let s = c.loop-i.invariant in
    let l = c.loop-i-test.true in
    let room = plan-room s l c.form_of-form.ensures in
    (rw c.from-last.ensures (plan-inside s l), rw c.from-last.ensures (plan-score s l), room.0, room.1)

pub loop-i-preserved : goal.loop-i-preserved
loop-i-preserved c = plan-next c.loop-i.invariant c.loop-i-test.true c.form_of-form.ensures c.from-last.ensures c.append_part-count.ensures

-- the parts have few bytes
after : (c : goal.After-loop-i) → (c.form_of-form.result.width ≤ 16) × (core_bytes c.form_of-form.result.width * c.loop-i.count ≤ 2016)
after c = short-records c.args.day.now.badges (ap (λ (f : Form). f.set_bytes) c.form_of-form.ensures) (plan-few c.loop-i.invariant)

pub overflow_mul-record : goal.overflow_mul-record
overflow_mul-record c = omega (arith, (after (goal.at.overflow_mul-record c).After-loop-i).1)

pub overflow_add-record-2 : goal.overflow_add-record-2
overflow_add-record-2 c = let a = after (goal.at.overflow_add-record-2 c).After-loop-i in omega (arith, a.0, a.1)

pub overflow_cast-count : goal.overflow_cast-count
overflow_cast-count c = omega (arith, plan-few c.loop-i.invariant)

pub returns : goal.returns
returns c = plan-end _ _ c.form_of-form.ensures c.loop-i.invariant (omega (arith, c.loop-i-test.false)) c.requires.room c.put_core.ensures c.put_record.ensures
