-- `mark_from` meets its contract: each test of two bytes is that of one kind's mark.
use mathlib.Core.Path.{sym}
use mathlib.Core.Logic.{◌⊎◌, inl, inr}
use Rattle.records.specs.declared.record.Kind.TheVariants as k
use Rattle.records.proofs.Records.{mark-in, mark-none}
use Rattle.records.proofs.record.mark_from.Goals as goal

-- one of two bytes, or the other, is not the mark's
neither : {A B : Type 0} → (A × (B → ⊥)) ⊎ (A → ⊥) → A × B → ⊥
neither (inl w) e = w.1 e.1
neither (inr w) e = w e.0

pub returns-then-y-eq84 : goal.returns-then-y-eq84
returns-then-y-eq84 c = sym (mark-in k.Contact _ _ c.if-x-eq67.true c.if-y-eq84.true)

pub returns-then-y-eq72 : goal.returns-then-y-eq72
returns-then-y-eq72 c = sym (mark-in k.Header _ _ c.if-x-eq66.true c.if-y-eq72.true)

pub returns-then-y-eq68 : goal.returns-then-y-eq68
returns-then-y-eq68 c = sym (mark-in k.End _ _ c.if-x-eq69.true c.if-y-eq68.true)

pub returns : goal.returns
returns c = sym (mark-none _ _ (neither c.else-x-eq66.either) (neither c.else-x-eq67.either) (neither c.else-x-eq69.either))
