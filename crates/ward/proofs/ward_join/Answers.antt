-- `ward_join` meets its contract: it leaves what join leaves, and its answer is join's.
use Rattle.std.proofs.Common.{ap, ◌∙◌}
use Rattle.ward.specs.Answers.{join_answer}
use Rattle.ward.proofs.ward_join.Goals as goal

pub returns : goal.returns
returns c =
    let r = c.join-joined.ensures in
    record {
      answer = c.join_answer.ensures ∙ ap join_answer r.answer;
      words = r.leaves;
      work = r.clears;
    }
