-- `peeling::peel` meets its contract: the rows are those of the members of the core.
use mathlib.Core.Path.{ap, ◌∙◌}
use Prim.Native.Nat.{ℕ}
use Rattle.sets.specs.Words.{words_of}
use Rattle.cores.specs.Rows.{kept_rows}
use Rattle.cores.proofs.peeling.peel.Goals as goal

pub returns : goal.returns
returns c =
    let k = c.core-kept.ensures in
    record { kept = c.keep.ensures ∙ ap (λ (s : ℕ). words_of (kept_rows c.args.rows s)) k.members; members = k.members; least = k.least }
