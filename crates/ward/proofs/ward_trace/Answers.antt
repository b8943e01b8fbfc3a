-- ward_trace meets its contract: it leaves what trace leaves, and its answer is trace's.
use Rattle.std.proofs.Common.{ap, ◌∙◌}
use Rattle.ward.specs.Answers.{written_answer}
use Rattle.ward.proofs.ward_trace.Goals as goal

pub returns : goal.returns
returns c =
    let r = c.trace-written.ensures in
    record {
      answer = c.written_answer.ensures ∙ ap written_answer r.answer;
      leaves = r.leaves;
      trace = rw r.answer at r.trace;
    }
