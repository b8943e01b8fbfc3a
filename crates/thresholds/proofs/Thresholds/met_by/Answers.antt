-- `Thresholds::met_by` meets its contract: it tests what the definition tests.
use native.Mathlib.Omega.{arith}
use borrow.Author.Tests.{leb-true, le-leb}
use Rattle.sets.proofs.Bools.{same_test}
use Rattle.std.proofs.lemmas.Bool.Decides.{nat_tests}
use Rattle.thresholds.proofs.Enough.{enough-in, enough-of}
use Rattle.thresholds.proofs.Thresholds.met_by.Goals as goal
use Rattle.thresholds.proofs.Thresholds.met_by.Goals.{then-self-ticks, else-self-ticks}

pub returns-then-self-order : goal.returns-then-self-order
returns-then-self-order c =
    let least = c.args.self in
    let e = c.size.ensures in
    let both = c.if-self-order.true in
    same_test _ _
    (λ p. enough-in least both.0 both.1 (omega (arith, e, leb-true least.members c.size.result p)))
    (λ p. le-leb least.members c.size.result (omega (arith, e, (enough-of least p).2)))

pub returns-else-self-order : goal.returns-else-self-order
returns-else-self-order c =
    same_test _ _
    (λ p. absurd (elim c.if-self-ticks.branch [ then-self-ticks w ↦ grind (arith, nat_tests) | else-self-ticks w ↦ grind (arith, nat_tests) ]))
    (λ p. let r = enough-of c.args.self p in absurd (grind (arith, nat_tests)))
