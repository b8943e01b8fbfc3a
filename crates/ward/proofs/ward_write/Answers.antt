-- ward_write meets its contract: it leaves what write leaves, and its answer is write's.
use Rattle.std.proofs.Common.{ap, ◌∙◌}
use Rattle.ward.specs.Answers.{written_answer}
use Rattle.ward.proofs.ward_write.Goals as goal

pub returns : goal.returns
returns c =
    let r = c.write-written.ensures in
    record {
      answer = c.written_answer.ensures ∙ ap written_answer r.answer;
      leaves = r.leaves;
    }
