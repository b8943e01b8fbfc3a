-- `write_report` meets its contract: before the turn of a core the records of the cores before it are appended.
use Rattle.sets.specs.Members.{members}
use Rattle.groups.proofs.ReportBytes.{ReportSoFar}
use Rattle.groups.proofs.writing.write_report.Given as goal

abbrev pub invariant-loop-stored : goal.invariant-loop-stored
invariant-loop-stored l =
    ReportSoFar l.day.badges l.day.ticks l.day.words.now (members l.day.review) l.least l.stored-index l.walked.count l.walked.at.first l.walked.at.last l.rows l.initial.buffer l.buffer
