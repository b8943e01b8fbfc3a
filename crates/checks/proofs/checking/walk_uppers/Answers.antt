-- `walk_uppers` meets its contract: before the turn of row u the upper words of the rows before it are passed.
use mathlib.Core.Path.{◌≡◌, refl, subst}
use Prim.Native.Nat.{ℕ, ◌+◌}
use native.Mathlib.Omega.{arith}
use borrow.Author.Rules.{rules}
use Rattle.sets.proofs.Bools.{clash}
use Rattle.checks.specs.Scan.{Passed, PassedIf}
use Rattle.checks.proofs.UpperWalk.{narrow-passed}
use Rattle.checks.proofs.checking.walk_uppers.Goals as goal
use Rattle.checks.proofs.checking.walk_uppers.Goals.{After-walk_upper}

-- what the walk over one row says
told : (c : goal.After-walk_upper) →
    let s = c.before.before.before.before.before.before.before in
    PassedIf c.walk_upper.result s.args.n (c.loop-u.u + 1) s.args.tick.now c.walk_upper.new.known
told c = let s = c.before.before.before.before.before.before.before in c.walk_upper.ensures s.args.n s.requires.0 c.loop-u-test.true c.loop-u.invariant.1

pub returns-then-n-le-WORD_BITS : goal.returns-then-n-le-WORD_BITS
returns-then-n-le-WORD_BITS c = record { passed = λ e. narrow-passed (omega arith) c.requires.2; broken = λ e d. clash refl e }

pub loop-u-init : goal.loop-u-init
loop-u-init c = (search rules, c.requires.2)

pub returns-then-not-walk_upper : goal.returns-then-not-walk_upper
returns-then-not-walk_upper c = record { passed = λ e. absurd (clash e refl); broken = λ e. (told (goal.at.returns-then-not-walk_upper c).After-walk_upper).broken c.if-not-walk_upper.true }

pub loop-u-preserved : goal.loop-u-preserved
loop-u-preserved c = (search rules, (told (goal.at.loop-u-preserved c).After-walk_upper).passed c.if-not-walk_upper.false)

pub returns : goal.returns
returns c =
    let n = c.args.n in
    let e : c.loop-u.u ≡ n = omega arith in
    record { passed = λ f. subst (λ (u : ℕ). Passed n u c.args.tick.now c.loop-u.known) e c.loop-u.invariant.1; broken = λ f d. clash refl f }
