-- `write_report` meets its contract: before the turn of a core the records of the cores before it are appended.
use mathlib.Core.Path.{◌≡◌, ap, ◌∙◌}
use mathlib.Core.List.{List, [], ◌∷◌, ◌++◌}
use Prim.Native.Nat.{ℕ, ◌*◌, ◌≤◌, ◌<◌}
use native.Mathlib.Omega.{arith}
use lib.ListN.{length, length-take}
use Rattle.records.proofs.WithinLimits.{limits_of}
use Rattle.logs.specs.Buffers.{place}
use Rattle.spans.specs.Encoding.{Form, max_records, core_bytes}
use Rattle.groups.proofs.Narrowing.{empty-zeros}
use Rattle.groups.proofs.Appended.{short-records}
use Rattle.groups.proofs.KeptCores.{from-said}
use Rattle.groups.proofs.ReportBytes.{written_none, written-few, written-split, written-more, written-end, header-size}
use Rattle.groups.proofs.writing.write_report.Goals as goal
use Rattle.groups.proofs.writing.write_report.Goals.{After-loop-stored, After-put}

pub header_bytes-requires : goal.header_bytes-requires
header_bytes-requires c =
    let limits = limits_of c.args.day.now.lent.limits in
    (omega (arith, limits.few), omega (arith, limits.short))

pub first_rows-requires : goal.first_rows-requires
first_rows-requires c = (omega (arith, (limits_of c.args.day.now.lent.limits).long), empty-zeros _)

pub loop-stored-init : goal.loop-stored-init
loop-stored-init c = written_none c.first_rows.ensures

-- the loop starts with a buffer that has the header, as long as the one that was lent
header : (c : goal.After-put) → let d = c.args.day.now in c.put.new.buffer ≡ place 0 (c.form_of-form.result.report ++ (d.badges ∷ d.ticks ∷ [])) c.args.buffer.now
header c = c.put.ensures ∙ ap (λ (bs : List ℕ). place 0 bs c.args.buffer.now) c.header_bytes.ensures

sized : (c : goal.After-put) → length c.put.new.buffer ≡ length c.args.buffer.now
sized c = let d = c.args.day.now in header-size d.lent d.reviewed c.requires c.form_of-form.ensures (header c)

pub append_core-walked-requires : goal.append_core-walked-requires
append_core-walked-requires c =
    let d = c.args.day.now in
    let e = c.all-stored-items.ensures in
    let l : c.loop-stored.stored-index < c.args.cores.now.count = omega (arith, c.loop-stored-test.true, ap length e, length-take c.args.cores.now.count c.args.cores.now.kept) in
    let f = from-said _ c.core-core.result c.core-core.ensures in
    (c.loop-stored.invariant.rows_are, rw (f.0, f.1, e) (written-split d.lent d.reviewed c.requires c.loop-stored.invariant (sized (goal.at.append_core-walked-requires c).After-put) l _ c.form_of-form.ensures))

pub loop-stored-preserved : goal.loop-stored-preserved
loop-stored-preserved c =
    let d = c.args.day.now in
    let e = c.all-stored-items.ensures in
    let l : c.loop-stored.stored-index < c.args.cores.now.count = omega (arith, c.loop-stored-test.true, ap length e, length-take c.args.cores.now.count c.args.cores.now.kept) in
    let a = c.append_core-walked.ensures in
    let f = from-said _ c.core-core.result c.core-core.ensures in
    written-more d.lent d.reviewed c.requires c.loop-stored.invariant (sized (goal.at.loop-stored-preserved c).After-put) l _ c.form_of-form.ensures (rw (f.0, e) at a.appended) a.rows

-- there are few records
few : (c : goal.After-loop-stored) → length c.put.new.buffer ≡ length c.args.buffer.now → c.loop-stored.walked.count ≤ max_records
few c z = let d = c.args.day.now in written-few d.lent d.reviewed c.requires c.loop-stored.invariant z

-- so they have few bytes
most : (c : goal.After-loop-stored) → length c.put.new.buffer ≡ length c.args.buffer.now → (c.form_of-form.result.width ≤ 16) × (core_bytes c.form_of-form.result.width * c.loop-stored.walked.count ≤ 21 * max_records)
most c z = short-records c.args.day.now.badges (ap (λ (f : Form). f.set_bytes) c.form_of-form.ensures) (few c z)

pub overflow_add-form : goal.overflow_add-form
overflow_add-form c = omega (arith, (most (goal.at.overflow_add-form c).After-loop-stored (sized (goal.at.overflow_add-form c).After-put)).0)

pub overflow_mul-form : goal.overflow_mul-form
overflow_mul-form c = omega (arith, (most (goal.at.overflow_mul-form c).After-loop-stored (sized (goal.at.overflow_mul-form c).After-put)).1)

pub overflow_add-form-2 : goal.overflow_add-form-2
overflow_add-form-2 c = omega (arith, (most (goal.at.overflow_add-form-2 c).After-loop-stored (sized (goal.at.overflow_add-form-2 c).After-put)).1)

pub overflow_cast-walked : goal.overflow_cast-walked
overflow_cast-walked c = omega (arith, few (goal.at.overflow_cast-walked c).After-loop-stored (sized (goal.at.overflow_cast-walked c).After-put))

pub returns : goal.returns
returns c =
    let d = c.args.day.now in
    let h = (goal.at.returns c).After-put in
    let over : c.args.cores.now.count ≤ c.loop-stored.stored-index = omega (arith, c.loop-stored-test.false, ap length c.all-stored-items.ensures, c.requires.found.number, length-take c.args.cores.now.count c.args.cores.now.kept) in
    written-end d.lent d.reviewed c.requires c.form_of-form.ensures c.loop-stored.invariant over (header h) (sized h) c.put_record.ensures
