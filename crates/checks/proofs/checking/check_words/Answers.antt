-- `checking::check_words` meets its contract: each of its answers is one law of the check.
use mathlib.Core.Bool.{true}
use mathlib.Core.Path.{◌≡◌, sym, ◌∙◌}
use native.Mathlib.Omega.{arith}
use Rattle.sets.proofs.Bools.{clash}
use Rattle.records.specs.Limits.{within_limits}
use Rattle.records.proofs.WithinLimits.{limits_of, words-most}
use Rattle.days.proofs.Scan.{day-in, day-of}
use Rattle.days.proofs.Checks.{check-limits, check-few, check-broken, check-day}
use Rattle.checks.proofs.checking.check_words.Goals as goal
use Rattle.checks.proofs.checking.check_words.Goals.{Else-not-within_limits}

pub returns-then-not-within_limits : goal.returns-then-not-within_limits
returns-then-not-within_limits c = sym (check-limits _ _ _ (sym c.within_limits.ensures ∙ c.if-not-within_limits.true))

-- n and T are within their limits from here on
inside : (c : goal.Else-not-within_limits) → let a = c.args in within_limits a.badges a.ticks ≡ true
inside c = sym c.within_limits.ensures ∙ c.if-not-within_limits.false

pub overflow_mul-ticks : goal.overflow_mul-ticks
overflow_mul-ticks c = omega (arith, words-most _ _ (limits_of (inside (goal.at.overflow_mul-ticks c).Else-not-within_limits)))

pub overflow_mul-ticks-2 : goal.overflow_mul-ticks-2
overflow_mul-ticks-2 c = omega (arith, words-most _ _ (limits_of (inside (goal.at.overflow_mul-ticks-2 c).Else-not-within_limits)))

pub returns-then-words-ticks : goal.returns-then-words-ticks
returns-then-words-ticks c = sym (check-few _ _ _ (inside (goal.at.returns-then-words-ticks c).Else-not-within_limits) c.if-words-ticks.true)

pub is_day-requires : goal.is_day-requires
is_day-requires c = ((limits_of (inside (goal.at.is_day-requires c).Else-not-within_limits)).few, c.if-words-ticks.false)

pub returns-then-not-is_day : goal.returns-then-not-is_day
returns-then-not-is_day c =
    sym (check-broken _ _ _ (inside (goal.at.returns-then-not-is_day c).Else-not-within_limits) c.if-words-ticks.false
    (λ d. clash (day-in _ _ _ d) (sym c.is_day.ensures ∙ c.if-not-is_day.true)))

pub returns : goal.returns
returns c =
    sym (check-day _ _ _ (inside (goal.at.returns c).Else-not-within_limits) c.if-words-ticks.false
    (day-of _ _ _ (sym c.is_day.ensures ∙ c.if-not-is_day.false)))
