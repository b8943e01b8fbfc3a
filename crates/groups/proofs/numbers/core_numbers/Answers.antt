-- `core_numbers` meets its contract: the refusal of the words or of the badges under review, or what the span comes to.
use mathlib.Core.Path.{◌≡◌, sym, ap, ◌∙◌}
use Rattle.std.proofs.lemmas.Result.{err_from_is_err_and}
use Rattle.sets.specs.Members.{members}
use Rattle.records.specs.Outcomes.{success}
use Rattle.logs.specs.Buffers.{Delivered}
use Rattle.logs.proofs.Delivering.{deliver-refused, deliver-passed}
use Rattle.spans.specs.Judging.{review_of}
use Rattle.spans.proofs.Judging.{review-day}
use Rattle.groups.specs.Calls.{core_numbers_of}
use Rattle.groups.proofs.numbers.core_numbers.Goals as goal
use Rattle.groups.proofs.numbers.core_numbers.Goals.{After-number_span, In_ok-judge_review}

-- the words and the badges under review passed
passed : (c : goal.In_ok-judge_review) → let a = c.args in review_of a.badges a.ticks a.words.now (members a.review) ≡ success tt
passed c = sym c.in_ok-judge_review.ensures

pub number_span-requires : goal.number_span-requires
number_span-requires c = review-day _ _ _ _ (passed (goal.at.number_span-requires c).In_ok-judge_review)

pub returns-in_err-judge_review : goal.returns-in_err-judge_review
unfolding core_numbers_of
returns-in_err-judge_review c =
    let a = c.args in
    let p = err_from_is_err_and c.from_residual.result c.from_residual.ensures.1 in
    let e = deliver-refused _ _ a.buffer.now _ _ (sym c.in_err-judge_review.ensures) in
    record { answer = rw (p.1, p.2) (sym (ap (λ (x : Delivered). x.answer) e)); leaves = sym (ap (λ (x : Delivered). x.buffer) e) }

pub returns : goal.returns
unfolding core_numbers_of
returns c =
    let d = (goal.at.returns c).After-number_span in
    let a = c.args in
    let e = deliver-passed _ _ a.buffer.now tt (passed (goal.at.returns c).In_ok-judge_review) in
    record { answer = d.number_span.ensures.answer ∙ sym (ap (λ (x : Delivered). x.answer) e); leaves = d.number_span.ensures.leaves ∙ sym (ap (λ (x : Delivered). x.buffer) e) }
