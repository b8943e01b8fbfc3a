-- `judge_review` meets its contract: the refusal of the check, or what the set comes to.
use mathlib.Core.Path.{◌≡◌, sym, ◌∙◌}
use Rattle.std.proofs.lemmas.Result.{err_from_is_err_and}
use Rattle.records.specs.Outcomes.{success}
use Rattle.records.proofs.WithinLimits.{limits_of}
use Rattle.days.specs.Calls.{check_of}
use Rattle.days.proofs.Checks.{check-passed}
use Rattle.spans.proofs.Judging.{words-refused, words-passed}
use Rattle.groups.proofs.reviewing.judge_review.Goals as goal
use Rattle.groups.proofs.reviewing.judge_review.Goals.{In_ok-check_words}

-- the check passed
passed : (c : goal.In_ok-check_words) → let a = c.args in check_of a.badges a.ticks a.words.now ≡ success tt
passed c = sym c.in_ok-check_words.ensures

pub judge_set-requires : goal.judge_set-requires
judge_set-requires c = (limits_of (check-passed _ _ _ (passed (goal.at.judge_set-requires c).In_ok-check_words)).limits).few

pub returns-in_err-check_words : goal.returns-in_err-check_words
returns-in_err-check_words c =
    let p = err_from_is_err_and c.from_residual.result c.from_residual.ensures.1 in
    rw (p.1, p.2) (sym (words-refused _ _ _ _ _ _ (sym c.in_err-check_words.ensures)))

pub returns : goal.returns
returns c = c.judge_set.ensures ∙ sym (words-passed _ _ _ _ (passed (goal.at.returns c).In_ok-check_words))
