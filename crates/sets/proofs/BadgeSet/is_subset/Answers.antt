-- BadgeSet::is_subset meets its contract: a set is a subset where each of its words is one of the other's word.
use mathlib.Core.Path.{◌≡◌, sym, ◌∙◌}
use mathlib.Core.Logic.{by_cases}
use native.Mathlib.Decide.{ℕ_discrete}
use native.Mathlib.Omega.{arith}
use lib.Bits.{bit_and}
use borrow.Author.Tests.{eq-eqb, ne_eqb}
use Rattle.sets.proofs.Pairs.{sub-two, sub_low, sub-high}
use Rattle.sets.proofs.BadgeSet.is_subset.Goals as goal
use Rattle.sets.proofs.BadgeSet.is_subset.Goals.{Else-self-other}

pub returns-then-self-other : goal.returns-then-self-other
returns-then-self-other c =
    let a = c.args in
    sym (sub_low a.self.low a.self.high a.other.low a.other.high (omega arith) (omega arith) (omega arith) (omega arith) c.if-self-other.true)

pub returns : goal.returns
returns c =
    let a = c.args in
    let e : bit_and a.self.low a.other.low ≡ a.self.low = c.if-self-other.false in
    by_cases (ℕ_discrete (bit_and a.self.high a.other.high) a.self.high)
    (λ f. eq-eqb _ _ f ∙ sym (sub-two a.self.low a.self.high a.other.low a.other.high (omega arith) (omega arith) (omega arith) (omega arith) e f))
    (λ f. ne_eqb _ _ f ∙ sym (sub-high a.self.low a.self.high a.other.low a.other.high (omega arith) (omega arith) (omega arith) (omega arith) f))
