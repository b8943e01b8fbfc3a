-- `report` meets its contract: the refusal of the words or of the badges under review, or what the day's report comes to; and so the group statement.
use mathlib.Core.Path.{◌≡◌, sym, ap, ◌∙◌}
use Rattle.std.proofs.lemmas.Result.{err_from_is_err_and}
use Rattle.sets.specs.Members.{members}
use Rattle.records.specs.Outcomes.{success}
use Rattle.logs.specs.Buffers.{Delivered}
use Rattle.logs.proofs.Delivering.{deliver-refused, deliver-passed}
use Rattle.spans.specs.Judging.{review_of}
use Rattle.spans.proofs.Judging.{review-day}
use Rattle.groups.specs.Refusals.{written_outcome}
use Rattle.groups.specs.Calls.{report_of}
use Rattle.groups.proofs.ReportTheorems.{reported}
use Rattle.groups.proofs.reporting.report.Goals as goal
use Rattle.groups.proofs.reporting.report.Goals.{After-report_day, In_ok-judge_review}

-- the words and the badges under review passed
passed : (c : goal.In_ok-judge_review) → let a = c.args in review_of a.badges a.ticks a.words.now (members a.review) ≡ success tt
passed c = sym c.in_ok-judge_review.ensures

pub report_day-requires : goal.report_day-requires
report_day-requires c = review-day _ _ _ _ (passed (goal.at.report_day-requires c).In_ok-judge_review)

pub returns-in_err-judge_review : goal.returns-in_err-judge_review
unfolding report_of
returns-in_err-judge_review c =
    let a = c.args in
    let p = err_from_is_err_and c.from_residual.result c.from_residual.ensures.1 in
    let e = deliver-refused _ _ a.buffer.now _ _ (sym c.in_err-judge_review.ensures) in
    let x : written_outcome c.from_residual.result ≡ (report_of a.badges a.ticks a.words.now (members a.review) a.least a.buffer.now).answer = rw (p.1, p.2) (sym (ap (λ (x : Delivered). x.answer) e)) in
    let y = sym (ap (λ (x : Delivered). x.buffer) e) in
    record { answer = x; leaves = y; groups = reported a.badges a.ticks a.words.now (members a.review) a.least a.buffer.now _ _ x y }

pub returns : goal.returns
unfolding report_of
returns c =
    let d = (goal.at.returns c).After-report_day in
    let a = c.args in
    let e = deliver-passed _ _ a.buffer.now tt (passed (goal.at.returns c).In_ok-judge_review) in
    let x = d.report_day.ensures.answer ∙ sym (ap (λ (x : Delivered). x.answer) e) in
    let y = d.report_day.ensures.leaves ∙ sym (ap (λ (x : Delivered). x.buffer) e) in
    record { answer = x; leaves = y; groups = reported a.badges a.ticks a.words.now (members a.review) a.least a.buffer.now _ _ x y }
