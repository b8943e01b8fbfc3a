-- first_outside meets its contract: it finds the first tick of the others.
use mathlib.Core.Path.{sym}
use native.Mathlib.Omega.{arith}
use Rattle.sets.specs.Words.{word_bits}
use Rattle.logs.proofs.TickSets.{all_but, first-same, has-others}
use Rattle.logs.proofs.ticks.TickSet.first_outside.Goals as goal

pub returns : goal.returns
returns c =
    let s = c.args.self in
    first-same _ _ (has-others s _ (sym (all_but word_bits s.low (omega arith))) (sym (all_but word_bits s.high (omega arith)))) c.first_in.ensures
