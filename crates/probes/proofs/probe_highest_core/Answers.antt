-- probe_highest_core meets its contract: what highest_core leaves, of the base and the query as sets, with the members as two words.
use Rattle.probes.proofs.probe_highest_core.Goals as goal

pub returns : goal.returns
returns c =
    rw (c.from_words.ensures, c.from_words-2.ensures) at c.highest_core-core.ensures
