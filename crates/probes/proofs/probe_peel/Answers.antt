-- probe_peel meets its contract: what peel leaves, of the base as a set, with the members as two words.
use Rattle.probes.proofs.probe_peel.Goals as goal

pub returns : goal.returns
returns c =
    rw c.from_words.ensures at c.peel-peeled.ensures
