-- `keep_core` meets its contract: with no members, or thresholds that are not met, nothing is kept; else the core is.
use mathlib.Core.Path.{◌≡◌, sym, ap₂, ◌∙◌}
use mathlib.Core.Bool.{true}
use mathlib.Core.List.{[], ◌∷◌}
use Prim.Native.Nat.{ℕ, ◌+◌, ◌<◌}
use native.Mathlib.Omega.{arith}
use lib.Dec.{ltb}
use borrow.Author.Tests.{ltb-true, lt-ltb, eqb-true, eqb-false}
use Rattle.sets.specs.Bools.{◌and◌}
use Rattle.sets.specs.Sets.{size}
use Rattle.sets.specs.Members.{members}
use Rattle.sets.specs.Tables.{keep_if}
use Rattle.sets.proofs.Bools.{clash, and_in, and_left, and_right}
use Rattle.sets.proofs.Concat.{keep-nil, keep_all}
use Rattle.thresholds.specs.declared.Thresholds.{Thresholds}
use Rattle.spans.specs.Spans.{span_ticks}
use Rattle.spans.specs.SpanCores.{SpanCore}
use Rattle.thresholds.specs.Ranges.{are_enough}
use Rattle.spans.specs.KeptGroups.{meets, kept}
use Rattle.spans.proofs.KeptRecords.{kept-one}
use Rattle.groups.specs.declared.kept.Cores.{Cores}
use Rattle.groups.specs.Keeping.{kept_core, KeepsCores}
use Rattle.groups.proofs.KeptCores.{keeps-none}
use Rattle.groups.proofs.keeping.keep_core.Goals as goal
use Rattle.groups.proofs.keeping.keep_core.Goals.{After-met_by}

-- nothing is kept where a test fails
nothing : (least : Thresholds) (core : SpanCore) (circles large : ℕ) (cores : Cores) → (0 < core.members → meets least core ≡ true → ⊥)
    → KeepsCores (λ c. circles) (λ c. large) (kept least (keep_if (ltb 0 core.members) (core ∷ []))) cores cores
nothing least core circles large cores f =
    rw (
      kept-one least (ltb 0 core.members) core,
      keep-nil (ltb 0 core.members and meets least core) (core ∷ []) (λ e. f (ltb-true _ _ (and_left _ _ e)) (and_right _ _ e)),
    )
    keeps-none

pub returns-then-is_empty : goal.returns-then-is_empty
returns-then-is_empty c =
    let a = c.args in
    nothing a.least (kept_core a.core) _ _ _ (λ p m. omega (arith, eqb-true (members a.core.members) 0 (sym c.is_empty.ensures ∙ c.if-is_empty.true)))

-- what is tested is whether the core meets the thresholds
tested : (c : goal.After-met_by) →
    let a = c.args in c.met_by.result ≡ meets a.least (kept_core a.core)
unfolding meets
tested c =
    let long : c.from-ticks.result + 1 ≡ span_ticks c.args.core.first c.args.core.last = omega (arith, c.from-ticks.ensures, c.requires.1) in
    c.met_by.ensures ∙ ap₂ (λ (t k : ℕ). are_enough c.args.least t k (size (members c.args.core.members))) long c.from.ensures

pub returns-else-met_by : goal.returns-else-met_by
returns-else-met_by c =
    let a = c.args in
    nothing a.least (kept_core a.core) _ _ _ (λ p m. clash m (sym (tested (goal.at.returns-else-met_by c).After-met_by) ∙ c.if-met_by.false))

pub returns-then-met_by : goal.returns-then-met_by
returns-then-met_by c =
    let a = c.args in
    let set = members a.core.members in
    let f = eqb-false set 0 (sym c.is_empty.ensures ∙ c.if-is_empty.false) in
    let b = ltb 0 set in
    rw (
      kept-one a.least b (kept_core a.core),
      keep_all (b and meets a.least (kept_core a.core)) (kept_core a.core ∷ []) (and_in _ _ (lt-ltb 0 set (omega arith)) (sym (tested (goal.at.returns-then-met_by c).After-met_by) ∙ c.if-met_by.true)),
    )
    c.keep.ensures
