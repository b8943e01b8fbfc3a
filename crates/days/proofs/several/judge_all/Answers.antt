-- `judge_all` meets its contract: at each log those before it are accepted, and what is known of their sizes is theirs.
use Rattle.std.proofs.Common.{◌≡◌, sym, ap, ◌∙◌, List, ℕ, ◌-◌, take, drop}
use Rattle.std.proofs.lemmas.Result.{err_from_is_err_and}
use Rattle.records.specs.Judging.{start, judge_from}
use Rattle.records.specs.Verdicts.{verdict_outcome, verdict_of}
use Rattle.days.specs.SeriesSteps.{common_of}
use Rattle.days.proofs.SeriesLoops.{Lies, lies-part, judging-none, judging-refused, judging-next, judging-done, sizes-refused, sizes-accepted}
use Rattle.days.proofs.ReadCall.{verdict-refused, valued}
use Rattle.days.proofs.several.judge_all.Goals as goal
use Rattle.days.proofs.several.judge_all.Goals.{After-end_of-end, After-judge_from}

-- where the next log lies, and what judging it tells
lies : (c : goal.After-end_of-end) → let a = c.args in Lies a.logs.now a.lengths.now c.loop-length.at c.loop-length.length-index c.end_of-end.result
lies c = record { inside = c.loop-length.invariant.place; there = c.loop-length-test.true; ends = c.end_of-end.ensures }

pub loop-length-init : goal.loop-length-init
loop-length-init c = judging-none _ _

-- what judging it tells is told of its own bytes
told : (c : goal.After-judge_from) → let at = c.loop-length.at in
    verdict_outcome c.judge_from.result ≡ verdict_of (judge_from (start at) (take (c.end_of-end.result - at) (drop at c.args.logs.now)))
told c = c.judge_from.ensures ∙ ap (λ (s : List ℕ). verdict_of (judge_from (start c.loop-length.at) s)) (lies-part (record { inside = c.loop-length.invariant.place; there = c.loop-length-test.true; ends = c.end_of-end.ensures }))

pub returns-in_err-accepted : goal.returns-in_err-accepted
returns-in_err-accepted c =
    let p = err_from_is_err_and c.from_residual.result c.from_residual.ensures.1 in
    let e = verdict-refused _ _ _ (sym (told (goal.at.returns-in_err-accepted c).After-judge_from) ∙ ap verdict_outcome c.in_err-accepted.was) in
    rw (p.1, p.2) (sym (sizes-refused _ _ _ (judging-refused c.loop-length.invariant (lies (goal.at.returns-in_err-accepted c).After-end_of-end) _ _ e)))

pub loop-length-preserved : goal.loop-length-preserved
loop-length-preserved c =
    let v = valued _ _ _ _ (sym (told (goal.at.loop-length-preserved c).After-judge_from) ∙ ap verdict_outcome c.in_ok-accepted.was) in
    rw (c.compared-sizes.ensures, c.from.ensures) (judging-next c.loop-length.invariant (lies (goal.at.loop-length-preserved c).After-end_of-end) v)

pub returns : goal.returns
returns c = let j = c.loop-length.invariant in c.common.ensures ∙ ap common_of j.known ∙ sym (sizes-accepted _ j.all (judging-done j c.loop-length-test.false))
