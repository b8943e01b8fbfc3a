-- ward_core_numbers meets its contract: it leaves what core_numbers leaves, and its answer is that call's, of the badges under review as a set.
use Rattle.std.proofs.Common.{ap, ◌∙◌}
use Rattle.ward.specs.Answers.{written_answer}
use Rattle.ward.proofs.ward_core_numbers.Goals as goal

pub returns : goal.returns
returns c =
    let r = rw c.from_words-reviewed.ensures at c.core_numbers-written.ensures in
    record {
      answer = c.written_answer.ensures ∙ ap written_answer r.answer;
      leaves = r.leaves;
    }
