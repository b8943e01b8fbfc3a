-- `report_groups` meets its contract: the cores that are found make as many records as the report has, and a buffer that holds it gets it.
use Prim.Native.Nat.{◌*◌, ◌≤◌}
use native.Mathlib.Omega.{arith}
use Rattle.spans.specs.Encoding.{max_cores, core_bytes}
use Rattle.spans.proofs.Forms.{marked}
use Rattle.groups.proofs.Appended.{short-records}
use Rattle.groups.proofs.ReportBytes.{found-size, delivers-nothing, delivers-written}
use Rattle.groups.proofs.reporting.report_groups.Goals as goal
use Rattle.groups.proofs.reporting.report_groups.Goals.{After-records}

-- the bytes of the records are few
most : (c : goal.After-records) → (c.set_bytes.result ≤ 16) × (core_bytes c.set_bytes.result * c.records.result ≤ 21 * (255 * max_cores))
most c =
    let f = c.find_cores.new.cores in
    let few : c.records.result ≤ 255 * max_cores = omega (arith, c.records.ensures, f.few, f.records_few) in
    short-records c.args.day.now.badges c.set_bytes.ensures few

pub overflow_add-size : goal.overflow_add-size
overflow_add-size c = omega (arith, c.set_bytes.ensures, (marked c.args.day.now.badges).most)

pub overflow_mul-size : goal.overflow_mul-size
overflow_mul-size c = omega (arith, (most (goal.at.overflow_mul-size c).After-records).1)

pub overflow_add-size-2 : goal.overflow_add-size-2
overflow_add-size-2 c = omega (arith, (most (goal.at.overflow_add-size-2 c).After-records).1)

pub returns-then-buffer-size : goal.returns-then-buffer-size
returns-then-buffer-size c =
    let d = c.args.day.now in
    let size = found-size d.lent d.reviewed c.args.least c.find_cores.ensures c.set_bytes.ensures c.records.ensures in
    delivers-nothing (omega (arith, size, c.if-buffer-size.true))

pub write_report-requires : goal.write_report-requires
write_report-requires c =
    let d = c.args.day.now in
    let size = found-size d.lent d.reviewed c.args.least c.find_cores.ensures c.set_bytes.ensures c.records.ensures in
    record { found = c.find_cores.ensures; room = omega (arith, size, c.if-buffer-size.false) }

pub returns : goal.returns
returns c =
    let d = c.args.day.now in
    delivers-written (found-size d.lent d.reviewed c.args.least c.find_cores.ensures c.set_bytes.ensures c.records.ensures) c.if-buffer-size.false c.write_report.ensures
