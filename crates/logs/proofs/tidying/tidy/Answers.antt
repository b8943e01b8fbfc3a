-- `tidy` meets its contract: reading's refusal, or what the tidy log's delivery comes to, and the words as reading leaves them. The log is
-- encoded in memory for the longest one, which holds it since it has no more contact records than came in.
use mathlib.Core.Path.{sym, ap, ◌∙◌}
use native.Mathlib.Omega.{arith}
use lib.Seq.{length-take-le}
use Rattle.std.proofs.lemmas.Result.{err_from_is_err_and}
use Rattle.records.specs.Outcomes.{success}
use Rattle.records.proofs.WithinLimits.{limits_of}
use Rattle.logs.specs.Buffers.{deliver}
use Rattle.logs.specs.Calls.{Tidied}
use Rattle.logs.specs.Writing.{Encoded}
use Rattle.logs.proofs.Appending.{encodes-some}
use Rattle.logs.proofs.TidyCall.{tidy-delivers, WasRead, was_read, unread-refused}
use Rattle.logs.proofs.tidying.tidy.Goals as goal
use Rattle.logs.proofs.tidying.tidy.Goals.{After-unwrap-count, In_ok-accepted}

-- reading accepted the log
was : (c : goal.In_ok-accepted) → let a = c.args in let said = c.in_ok-accepted.accepted in
    WasRead a.log.now a.work.now c.read.new.words said.badges said.ticks
was c = was_read _ _ _ _ _ _ c.read.ensures.leaves (sym c.in_ok-accepted.ensures.answer)

pub invariant_of-day : goal.invariant_of-day
invariant_of-day c =
    let w = was (goal.at.invariant_of-day c).In_ok-accepted in
    let l = limits_of w.limits in
    record { few = l.few; short = l.short; enough = omega (arith, w.enough) }

-- the tidy log is encoded
encoded : (c : goal.After-unwrap-count) → let said = c.in_ok-accepted.accepted in
    Encoded said.badges said.ticks c.read.new.words c.unwrap-count.result c.encode_day.new.log
encoded c = rw c.unwrap-count.ensures at c.encode_day.ensures

pub returns-in_err-accepted : goal.returns-in_err-accepted
unfolding deliver
returns-in_err-accepted c =
    let a = c.args in
    let p = err_from_is_err_and c.from_residual.result c.from_residual.ensures.1 in
    let e = tidy-delivers _ _ a.buffer.now (unread-refused _ _ _ _ (sym c.in_err-accepted.ensures.answer)) in
    record { answer = rw (p.1, p.2) (sym (ap (λ (x : Tidied). x.answer) e)); words = c.read.ensures.leaves ∙ sym (ap (λ (x : Tidied). x.words) e); leaves = sym (ap (λ (x : Tidied). x.buffer) e) }

pub unwrap-count-requires : goal.unwrap-count-requires
unwrap-count-requires c = encodes-some _ _ _ _ _ c.encode_day.ensures (was (goal.at.unwrap-count-requires c).In_ok-accepted).few

pub slice_bounds-tidied-end : goal.slice_bounds-tidied-end
slice_bounds-tidied-end c = omega (arith, (encoded (goal.at.slice_bounds-tidied-end c).After-unwrap-count).few)

pub slice_bounds-deliver-end : goal.slice_bounds-deliver-end
slice_bounds-deliver-end c = sym (length-take-le _ _ (omega (arith, (encoded (goal.at.slice_bounds-deliver-end c).After-unwrap-count).few)))

pub returns : goal.returns
returns c =
    let w = was (goal.at.returns c).In_ok-accepted in
    let g = encoded (goal.at.returns c).After-unwrap-count in
    let e = tidy-delivers _ _ c.args.buffer.now (w.bytes ∙ ap success (sym g.bytes)) in
    record { answer = c.deliver.ensures.answer ∙ sym (ap (λ (x : Tidied). x.answer) e); words = c.read.ensures.leaves ∙ sym (ap (λ (x : Tidied). x.words) e); leaves = c.deliver.ensures.leaves ∙ sym (ap (λ (x : Tidied). x.buffer) e) }
