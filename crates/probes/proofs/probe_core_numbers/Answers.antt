-- probe_core_numbers meets its contract: the numbers are those among the badges of the base as a set.
use Rattle.probes.proofs.probe_core_numbers.Goals as goal

pub returns : goal.returns
returns c = rw c.from_words.ensures at c.core_numbers.ensures
