-- `judge_from` meets its contract: no bytes are cut short, and at each turn the verdict on the log is the verdict on the rest from the state reached.
use Rattle.std.proofs.Common.{◌≡◌, sym, ap, ◌∙◌, drop, arith, Result, Ok}
use Rattle.std.proofs.lemmas.Result.{err_from_is_err_and}
use Rattle.records.specs.declared.judging.Step.{Step}
use Rattle.records.specs.declared.judging.Step.TheVariants as s
use Rattle.records.specs.declared.record.Record.{Record}
use Rattle.records.specs.declared.refusal.Refusal.{Refusal}
use Rattle.records.specs.Judging.{advance, judge_record}
use Rattle.records.specs.Steps.{step_of}
use Rattle.records.proofs.Verdicts.{Reached, nothing-there, bounded, reached-start, reached-next, advance-bounded, reached-stop, reached-done, offset-grows, rest-is}
use Rattle.records.proofs.judging.judge_from.Goals as goal
use Rattle.records.proofs.judging.judge_from.Goals.{After-judge_record}

pub returns-then-buffer-offset : goal.returns-then-buffer-offset
returns-then-buffer-offset c = sym (nothing-there _ _ c.if-buffer-offset.true)

pub loop-record-init : goal.loop-record-init
loop-record-init c = rw c.start-state.ensures (reached-start _ _ c.if-buffer-offset.false)

pub judge_record-requires : goal.judge_record-requires
judge_record-requires c = bounded c.loop-record.invariant c.well_formed.0.0

-- what was answered of a record is the judgement of all that is left
told : (c : goal.After-judge_record) (x : Result Step Refusal) → c.judge_record.result ≡ x
    → judge_record c.loop-record.state (drop c.loop-record.state.offset c.args.buffer.now) ≡ step_of x
told c x e =
    let buffer = c.args.buffer.now in
    let st = c.loop-record.state in
    sym (c.judge_record.ensures ∙ ap (judge_record st) (rest-is buffer st.offset)) ∙ ap step_of e

-- the judgement of a record that lets judging go on
pub advance-state-requires : goal.advance-state-requires
advance-state-requires c =
    advance-bounded _ _ _ _ c.loop-record.invariant c.well_formed.0.0 (told (goal.at.advance-state-requires c).After-judge_record _ (c.in_ok-record.was ∙ ap Ok c.in-Next.is))

-- the state after it is reached
onward : (c : goal.After-judge_record) (r : Record) → c.judge_record.result ≡ Ok (s.Next r) → Reached c.args.buffer.now c.args.offset (advance c.loop-record.state r)
onward c r e = reached-next _ _ _ _ c.loop-record.invariant (told c _ e)

pub loop-record-smaller : goal.loop-record-smaller
loop-record-smaller c =
    let r = c.in-Next.«record» in
    let o = onward (goal.at.loop-record-smaller c).After-judge_record r (c.in_ok-record.was ∙ ap Ok c.in-Next.is) in
    rw c.advance-state.ensures (omega (arith, offset-grows c.loop-record.state r, o.inside))

pub loop-record-preserved : goal.loop-record-preserved
loop-record-preserved c =
    rw c.advance-state.ensures (onward (goal.at.loop-record-preserved c).After-judge_record _ (c.in_ok-record.was ∙ ap Ok c.in-Next.is))

pub returns-in_err-record : goal.returns-in_err-record
returns-in_err-record c =
    let p = err_from_is_err_and c.from_residual.result c.from_residual.ensures.1 in
    rw (p.1, p.2) (sym (reached-stop _ _ _ _ _ c.loop-record.invariant (told (goal.at.returns-in_err-record c).After-judge_record _ c.in_err-record.was)))

pub returns : goal.returns
returns c = sym (reached-done _ _ _ _ c.loop-record.invariant (told (goal.at.returns c).After-judge_record _ (c.in_ok-record.was ∙ ap Ok c.in_default.is)))
