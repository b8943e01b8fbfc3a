-- `Thresholds::in_range` meets its contract: each of the three tests is that of a range.
use mathlib.Core.Path.{sym, ◌∙◌}
use Prim.Native.Nat.{◌≤◌, ◌<◌}
use native.Mathlib.Omega.{arith}
use Rattle.std.proofs.lemmas.Bool.Decides.{nat_tests}
use Rattle.std.proofs.lemmas.Grind.{common_steps}
use Rattle.sets.proofs.Bools.{to-false, same_test}
use Rattle.thresholds.proofs.Enough.{ranges-of, ranges_in}
use Rattle.thresholds.proofs.Thresholds.in_range.Goals as goal
use Rattle.thresholds.proofs.Thresholds.in_range.Goals.{then-contains, else-contains}

pub returns-then-contains-2 : goal.returns-then-contains-2
returns-then-contains-2 c =
    let least = c.args.self in
    let known : (1 ≤ least.ticks) × (least.ticks ≤ 96) × (1 ≤ least.order) × (least.order < 128) = elim c.if-contains.branch [
      | then-contains w ↦ grind (arith, nat_tests, common_steps)
      | else-contains w ↦ grind (arith, nat_tests, common_steps)
    ] in
    same_test _ _
    (λ p. ranges_in least (record {
      ticks_low = known.0;
      ticks_high = known.1;
      order_low = known.2;
      order_high = omega arith;
      members_low = grind (arith, nat_tests, common_steps);
      members_high = grind (arith, nat_tests, common_steps);
    }))
    (λ p. let r = ranges-of least p in grind (arith, nat_tests, common_steps))

pub returns-else-contains-2 : goal.returns-else-contains-2
returns-else-contains-2 c =
    c.if-contains-2.false ∙ sym (to-false _ (λ p.
    let r = ranges-of c.args.self p in
    elim c.if-contains.branch [
      | then-contains w ↦ grind (arith, nat_tests, common_steps)
      | else-contains w ↦ grind (arith, nat_tests, common_steps)
    ]))
