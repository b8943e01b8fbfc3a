-- `Runs::greatest_sum` meets its contract: before end e of the loop, `greatest` is the greatest sum at the ends t to e - 1.
use native.Mathlib.Omega.{arith}
use Rattle.std.proofs.lemmas.Bool.Decides.{nat_tests}
use Rattle.cuts.proofs.Greatest.{greatest-none, greatest-next, greatest-all}
use Rattle.cuts.proofs.Steps.{run-sum-in, small-in}
use Rattle.cuts.proofs.Runs.greatest_sum.Goals as goal

pub loop-e-init : goal.loop-e-init
loop-e-init c = (omega arith, omega arith, omega arith, greatest-none)

pub overflow_add-from : goal.overflow_add-from
overflow_add-from c =
    let a = small-in c.requires c.loop-e.invariant.0 c.loop-e-test.true in
    omega (arith, c.from.ensures)

pub loop-e-preserved : goal.loop-e-preserved
loop-e-preserved c =
    let i = c.loop-e.invariant in
    let a = small-in c.requires i.0 c.loop-e-test.true in
    (omega arith, omega arith, grind (arith, nat_tests), greatest-next i.3 i.0 (run-sum-in _ _ _ _ _ c.from.ensures) (grind (arith, nat_tests)))

pub returns : goal.returns
returns c = let i = c.loop-e.invariant in record { sum = greatest-all i.3 (omega arith); small = i.2 }
