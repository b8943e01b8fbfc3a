-- listing_answer meets its contract: a refusal has its number and offset, and success the report's bytes.
use Rattle.probes.specs.Listings.{listing_answer}
use Rattle.probes.proofs.answers.listing_answer.Goals as goal

pub returns-in-Ok : goal.returns-in-Ok
unfolding listing_answer
returns-in-Ok c = rw c.in-Ok.is

pub returns-in-Err : goal.returns-in-Err
unfolding listing_answer
returns-in-Err c = rw (c.in-Err.is, c.from.ensures, c.number.ensures, c.offset.ensures)
