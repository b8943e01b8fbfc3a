-- ward_plan meets its contract: it leaves what plan leaves, and its answer is plan's, of the badges under review and the query as sets.
use Rattle.std.proofs.Common.{ap, ◌∙◌}
use Rattle.ward.specs.Answers.{written_answer}
use Rattle.ward.proofs.ward_plan.Goals as goal

pub returns : goal.returns
returns c =
    let r = rw (c.from_words-reviewed.ensures, c.from_words-set.ensures) at c.plan-written.ensures in
    record {
      answer = c.written_answer.ensures ∙ ap written_answer r.answer;
      leaves = r.leaves;
      shown = rw r.answer at r.shown;
    }
