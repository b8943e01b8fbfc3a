-- ward_read meets its contract: it leaves what read leaves, and its answer is read's.
use Rattle.std.proofs.Common.{ap, ◌∙◌}
use Rattle.ward.specs.Answers.{read_answer}
use Rattle.ward.proofs.ward_read.Goals as goal

pub returns : goal.returns
returns c =
    let r = c.read-verdict.ensures in
    record {
      answer = c.read_answer.ensures ∙ ap read_answer r.answer;
      words = r.leaves;
    }
