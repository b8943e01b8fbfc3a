-- `judge_set` meets its contract: the set is a review exactly when it is not empty and among the day's badges.
use mathlib.Core.Path.{◌≡◌, sym, ap, ◌∙◌}
use mathlib.Core.Bool.{true}
use Prim.Native.Nat.{ℕ, ◌<◌, min}
use native.Mathlib.Omega.{arith}
use borrow.Author.Tests.{eqb-true, eqb-false, ltb-true, lt-ltb}
use Rattle.sets.specs.Bools.{isnt}
use Rattle.sets.specs.Sets.{is_sub, full}
use Rattle.sets.specs.Members.{capacity, members}
use Rattle.sets.proofs.Bools.{clash, and_in, and_left, and_right, to-false}
use Rattle.records.specs.Outcomes.{Outcome, refused, success, refuse_if}
use Rattle.spans.specs.Reviews.{is_review}
use Rattle.groups.proofs.reviewing.judge_set.Goals as goal
use Rattle.groups.proofs.reviewing.judge_set.Goals.{After-is_subset}

-- what is no review is refused by 20, and what is one passes
refuses : (n base : ℕ) → (0 < base → is_sub base (full n) ≡ true → ⊥) → ◌≡◌ {A = Outcome (Unit {0})} (refused 20 0) (refuse_if (isnt (is_review n base)) 20 0 (success tt))
unfolding refuse_if isnt is_review
refuses n base f = rw (to-false (is_review n base) (λ e. f (ltb-true _ _ (and_left _ _ e)) (and_right _ _ e)))

passes : (n base : ℕ) → 0 < base → is_sub base (full n) ≡ true → ◌≡◌ {A = Outcome (Unit {0})} (success tt) (refuse_if (isnt (is_review n base)) 20 0 (success tt))
unfolding refuse_if isnt is_review
passes n base p e = rw (and_in _ _ (lt-ltb 0 base p) e)

-- the day's badges fit a set
among : (c : goal.After-is_subset) → let a = c.args in c.is_subset.result ≡ is_sub (members a.review) (full a.badges)
among c =
    let m : min c.args.badges capacity ≡ c.args.badges = omega (arith, c.requires) in
    c.is_subset.ensures ∙ ap (is_sub (members c.args.review)) (c.full.ensures ∙ ap full m)

pub returns-then-is_empty : goal.returns-then-is_empty
returns-then-is_empty c =
    let e : members c.args.review ≡ 0 = eqb-true _ _ (sym c.is_empty.ensures ∙ c.if-is_empty.true) in
    refuses _ _ (λ p q. omega arith)

pub returns-then-not-is_subset : goal.returns-then-not-is_subset
returns-then-not-is_subset c = refuses _ _ (λ p q. clash q (sym (among (goal.at.returns-then-not-is_subset c).After-is_subset) ∙ c.if-not-is_subset.true))

pub returns : goal.returns
returns c =
    let e : members c.args.review ≡ 0 → ⊥ = eqb-false _ _ (sym c.is_empty.ensures ∙ c.if-is_empty.false) in
    passes _ _ (omega arith) (sym (among (goal.at.returns c).After-is_subset) ∙ c.if-not-is_subset.false)
