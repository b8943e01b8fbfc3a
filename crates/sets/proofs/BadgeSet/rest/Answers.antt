-- BadgeSet::rest meets its contract: the first word that has a badge loses its lowest bit, by w & (w - 1).
use mathlib.Core.Path.{sym, ap, ◌∙◌}
use mathlib.Core.List.{List, [], ◌∷◌}
use Prim.Native.Nat.{ℕ, ◌-◌}
use native.Mathlib.Omega.{arith}
use Rattle.sets.specs.Sets.{intersection}
use Rattle.sets.proofs.FirstWord.{without_first, rest-later, rest-here}
use Rattle.sets.proofs.Turns.{is-rest}
use Rattle.sets.proofs.BadgeSet.rest.Goals as goal

pub returns-then-self-eq0-2 : goal.returns-then-self-eq0-2
unfolding without_first
returns-then-self-eq0-2 c =
    let s = c.args.self in
    is-rest s.low s.high (omega arith) (omega arith)
    (sym (rest-later s.low (s.high ∷ []) c.if-self-eq0.true ∙ ap (λ (x : List ℕ). s.low ∷ x) (rest-later s.high [] c.if-self-eq0-2.true)))

pub returns-then-self-eq0 : goal.returns-then-self-eq0
unfolding intersection
returns-then-self-eq0 c =
    let s = c.args.self in
    let z = c.if-self-eq0.true in
    is-rest s.low s.high (omega arith) (omega arith)
    (sym (rest-later s.low (s.high ∷ []) z ∙ ap (λ (x : List ℕ). s.low ∷ x) (rest-here s.high [] c.if-self-eq0-2.false) ∙ ap (λ (x : ℕ). x ∷ intersection s.high (s.high - 1) ∷ []) z))

pub returns : goal.returns
unfolding intersection
returns c =
    let s = c.args.self in
    is-rest s.low s.high (omega arith) (omega arith) (sym (rest-here s.low (s.high ∷ []) c.if-self-eq0.false))
