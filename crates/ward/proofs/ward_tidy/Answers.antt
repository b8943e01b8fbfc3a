-- ward_tidy meets its contract: it leaves what tidy leaves, and its answer is tidy's.
use Rattle.std.proofs.Common.{ap, ◌∙◌}
use Rattle.ward.specs.Answers.{written_answer}
use Rattle.ward.proofs.ward_tidy.Goals as goal

pub returns : goal.returns
returns c =
    let r = c.tidy-written.ensures in
    record {
      answer = c.written_answer.ensures ∙ ap written_answer r.answer;
      words = r.words;
      leaves = r.leaves;
    }
