-- ward_report meets its contract: it leaves what report leaves, and its answer is report's, of the badges under review as a set.
use Rattle.std.proofs.Common.{ap, ◌∙◌}
use Rattle.ward.specs.Answers.{written_answer}
use Rattle.ward.proofs.ward_report.Goals as goal

pub returns : goal.returns
returns c =
    let r = rw c.from_words-reviewed.ensures at c.report-written.ensures in
    record {
      answer = c.written_answer.ensures ∙ ap written_answer r.answer;
      leaves = r.leaves;
      groups = rw r.answer at r.groups;
    }
