-- `keep` meets its contract: the core is put after those that are kept.
use mathlib.Core.Path.{refl, ap}
use Prim.Native.Nat.{◌+◌}
use borrow.Author.Rules.{rules}
use Rattle.groups.proofs.KeptCores.{keeps-one}
use Rattle.groups.proofs.kept.Cores.keep.Goals as goal

pub returns : goal.returns
returns c = keeps-one c.args.core _ c.of.ensures (search rules) refl (ap (◌+◌ c.args.self.now.records) c.from.ensures) refl
