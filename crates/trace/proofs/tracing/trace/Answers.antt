-- `trace` meets its contract: the refusal of the check, or what the index and the start tick come to; and so the bytes are the trace.
use mathlib.Core.Path.{◌≡◌, sym, ap, ◌∙◌}
use Rattle.std.proofs.lemmas.Result.{err_from_is_err_and}
use Rattle.days.specs.Days.{LentDay}
use Rattle.days.proofs.Checks.{check-passed}
use Rattle.logs.specs.Buffers.{Delivered}
use Rattle.trace.specs.Refusals.{written_outcome}
use Rattle.trace.specs.Calls.{trace_of}
use Rattle.trace.proofs.TraceCall.{trace-refused, trace-passed, traced}
use Rattle.trace.proofs.tracing.trace.Goals as goal
use Rattle.trace.proofs.tracing.trace.Goals.{In_ok-check_words}

-- the check passed
passed : (c : goal.In_ok-check_words) → let a = c.args in LentDay a.badges a.ticks a.words.now
passed c = check-passed _ _ _ (sym c.in_ok-check_words.ensures)

pub trace_day-requires : goal.trace_day-requires
trace_day-requires c = passed (goal.at.trace_day-requires c).In_ok-check_words

pub returns-in_err-check_words : goal.returns-in_err-check_words
returns-in_err-check_words c =
    let a = c.args in
    let p = err_from_is_err_and c.from_residual.result c.from_residual.ensures.1 in
    let e = trace-refused a.badges a.ticks a.words.now a.index a.start a.buffer.now _ _ (sym c.in_err-check_words.ensures) in
    let x : written_outcome c.from_residual.result ≡ (trace_of a.badges a.ticks a.words.now a.index a.start a.buffer.now).answer = rw (p.1, p.2) (sym (ap (λ (x : Delivered). x.answer) e)) in
    let y = sym (ap (λ (x : Delivered). x.buffer) e) in
    record { answer = x; leaves = y; trace = traced a.badges a.ticks a.words.now a.index a.start a.buffer.now _ _ x y }

pub returns : goal.returns
returns c =
    let a = c.args in
    let e = trace-passed a.badges a.ticks a.words.now a.index a.start a.buffer.now (passed (goal.at.returns c).In_ok-check_words) in
    let x = c.trace_day.ensures.answer ∙ sym (ap (λ (x : Delivered). x.answer) e) in
    let y = c.trace_day.ensures.leaves ∙ sym (ap (λ (x : Delivered). x.buffer) e) in
    record { answer = x; leaves = y; trace = traced a.badges a.ticks a.words.now a.index a.start a.buffer.now _ _ x y }
