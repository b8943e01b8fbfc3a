-- prepare meets its contract: reading's refusal, or what the report of the day that was read comes to.
use mathlib.Core.Path.{sym, ap, ◌∙◌}
use Rattle.std.proofs.lemmas.Result.{err_from_is_err_and}
use Rattle.text.specs.Calls.{Prepared}
use Rattle.text.proofs.PrepareCall.{prepare-refused, prepare-read}
use Rattle.text.proofs.preparing.prepare.Goals as goal

pub returns-in_err-accepted : goal.returns-in_err-accepted
returns-in_err-accepted c =
    let p = err_from_is_err_and c.from_residual.result c.from_residual.ensures.1 in
    let e = prepare-refused _ _ c.args.buffer.now _ _ (sym c.in_err-accepted.ensures.answer) in
    record {
      answer = rw (p.1, p.2) (sym (ap (λ (x : Prepared). x.answer) e));
      words = c.read.ensures.leaves ∙ sym (ap (λ (x : Prepared). x.words) e);
      leaves = sym (ap (λ (x : Prepared). x.report) e);
    }

pub returns : goal.returns
returns c =
    let e = prepare-read _ _ c.args.buffer.now _ (sym c.in_ok-accepted.ensures.answer) _ c.read.ensures.leaves c.full-all.ensures in
    record {
      answer = c.report.ensures.answer ∙ sym (ap (λ (x : Prepared). x.answer) e);
      words = sym (ap (λ (x : Prepared). x.words) e);
      leaves = c.report.ensures.leaves ∙ sym (ap (λ (x : Prepared). x.report) e);
    }
