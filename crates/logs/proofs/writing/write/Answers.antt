-- `write` meets its contract: the refusal of the check, 15 where there are too many contact records, or what the tidy log's delivery comes to.
use mathlib.Core.Path.{◌≡◌, sym, ap, ◌∙◌}
use native.Mathlib.Omega.{arith}
use lib.Seq.{length-take-le}
use Rattle.std.proofs.lemmas.Result.{err_from_is_err_and}
use Rattle.records.specs.Outcomes.{success}
use Rattle.records.proofs.WithinLimits.{limits_of}
use Rattle.days.specs.Calls.{check_of}
use Rattle.days.proofs.Checks.{check-passed}
use Rattle.logs.specs.Buffers.{Delivered}
use Rattle.logs.specs.Writing.{Encoded}
use Rattle.logs.proofs.TidyCall.{write-refused, write-many, write-few}
use Rattle.logs.proofs.writing.write.Goals as goal
use Rattle.logs.proofs.writing.write.Goals.{In-Some, In_ok-check_words}

-- the check passed
passed : (c : goal.In_ok-check_words) → let a = c.args in check_of a.badges a.ticks a.words.now ≡ success tt
passed c = sym c.in_ok-check_words.ensures

pub invariant_of-day : goal.invariant_of-day
invariant_of-day c =
    let p = check-passed _ _ _ (passed (goal.at.invariant_of-day c).In_ok-check_words) in
    let l = limits_of p.limits in
    record { few = l.few; short = l.short; enough = p.enough }

-- the tidy log is encoded
encoded : (c : goal.In-Some) → let a = c.args in Encoded a.badges a.ticks a.words.now c.in-Some.count c.encode_day.new.log
encoded c = c.in-Some.ensures

pub returns-in_err-check_words : goal.returns-in_err-check_words
returns-in_err-check_words c =
    let p = err_from_is_err_and c.from_residual.result c.from_residual.ensures.1 in
    let e = write-refused _ _ _ c.args.buffer.now _ _ (sym c.in_err-check_words.ensures) in
    record { answer = rw (p.1, p.2) (sym (ap (λ (x : Delivered). x.answer) e)); leaves = sym (ap (λ (x : Delivered). x.buffer) e) }

pub returns-in_default : goal.returns-in_default
returns-in_default c =
    let e = write-many _ _ _ c.args.buffer.now (passed (goal.at.returns-in_default c).In_ok-check_words) c.in_default.ensures in
    record { answer = sym (ap (λ (x : Delivered). x.answer) e); leaves = sym (ap (λ (x : Delivered). x.buffer) e) }

pub slice_bounds-log-end : goal.slice_bounds-log-end
slice_bounds-log-end c = omega (arith, (encoded (goal.at.slice_bounds-log-end c).In-Some).few)

pub slice_bounds-deliver-end : goal.slice_bounds-deliver-end
slice_bounds-deliver-end c = sym (length-take-le _ _ (omega (arith, (encoded (goal.at.slice_bounds-deliver-end c).In-Some).few)))

pub returns : goal.returns
returns c =
    let g = encoded (goal.at.returns c).In-Some in
    let e = write-few _ _ _ c.args.buffer.now (passed (goal.at.returns c).In_ok-check_words) (omega (arith, g.number, g.few)) g.bytes in
    record { answer = c.deliver.ensures.answer ∙ sym (ap (λ (x : Delivered). x.answer) e); leaves = c.deliver.ensures.leaves ∙ sym (ap (λ (x : Delivered). x.buffer) e) }
