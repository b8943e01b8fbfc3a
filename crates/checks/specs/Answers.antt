-- Which of document 01's outcomes each answer of the check of words is.
use Rattle.std.specs.Prelude.{Result}
use Rattle.records.specs.declared.refusal.Refusal.{Refusal}
use Rattle.records.specs.Outcomes.{Outcome, log_outcome}

abbrev pub checked_outcome : Result (Unit {0}) Refusal → Outcome (Unit {0})
checked_outcome r = log_outcome r
