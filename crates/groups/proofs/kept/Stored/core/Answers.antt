-- `core` meets its contract: its members are those of the words that the bytes say.
use mathlib.Core.Path.{refl}
use Rattle.groups.specs.Keeping.{said}
use Rattle.groups.proofs.kept.Stored.core.Goals as goal

pub returns : goal.returns
unfolding said
returns c = rw (c.from_words.ensures, c.from_le_bytes-low.ensures, c.from_le_bytes-high.ensures) refl
