-- make_line meets its contract: the line of a refusal, the first of the report, or that of the record at its place.
use native.Mathlib.Omega.{arith}
use Rattle.text.proofs.LinesShown.{refusal-shown, shown-head, shown-record}
use Rattle.text.proofs.shown.make_line.Goals as goal

pub returns-in-Err : goal.returns-in-Err
returns-in-Err c =
    rw (
      c.in-Err.is,
      refusal-shown _ _ c.args.report.now c.args.i (rw c.in-Err.is at c.requires),
      ← c.number.ensures,
      ← c.offset.ensures,
    )
    c.refusal_line.ensures

pub returns-in-Ok : goal.returns-in-Ok
returns-in-Ok c =
    rw (
      c.in-Ok.is,
      c.if-i-eq0.true,
      shown-head c.in-Ok.size c.args.report.now c.width_of-width.ensures.value,
      ← c.byte_at.ensures,
      ← c.byte_at-in-Ok.ensures,
      ← c.record_count-groups.ensures,
    )
    c.head_line.ensures

pub returns-in-Ok-2 : goal.returns-in-Ok-2
returns-in-Ok-2 c =
    let some = c.if-i-eq0.false in
    rw (
      c.in-Ok.is,
      shown-record c.in-Ok.size c.args.report.now c.width_of-width.ensures.value c.args.i (omega arith) (rw c.in-Ok.is at c.requires),
      ← c.group_at.ensures,
    )
    c.group_line.ensures
