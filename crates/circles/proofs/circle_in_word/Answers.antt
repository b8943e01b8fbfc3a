-- `circle_in_word` meets its contract, as the walk over sets of all words does. It ends as those on the frontier and unreached get fewer.
use Prim.Native.Nat.{ℕ, ◌-◌, ◌*◌, ◌^◌, ◌<◌}
use mathlib.Core.Path.{◌≡◌}
use native.Mathlib.Omega.{arith}
use lib.Bits.{bit_and, and_le_l, and_le_r}
use lib.Count.{count_trailing_zeros}
use lib.ListN.{get_or}
use Rattle.sets.specs.Sets.{intersection}
use Rattle.sets.specs.Words.{word_bits, set_words}
use Rattle.cores.specs.Rows.{graph}
use Rattle.circles.proofs.WordWalks.{word-start, no-circle, row-met, word-all, word_first, unreached-le, word-at-hand, word_more, word_fewer}
use Rattle.circles.proofs.circle_in_word.Goals as goal
use Rattle.circles.proofs.circle_in_word.Goals.{Else-frontier-eq0}

pub returns-then-word-eq0 : goal.returns-then-word-eq0
returns-then-word-eq0 c = no-circle _ _ c.if-word-eq0.true

pub overflow_sub-frontier : goal.overflow_sub-frontier
overflow_sub-frontier c = let w = c.args.word in omega (arith, and_le_l w (w - 1))

pub loop-unreached-init : goal.loop-unreached-init
loop-unreached-init c = word-start _ _ (omega arith) c.if-word-eq0.false

pub returns-then-unreached-eq0 : goal.returns-then-unreached-eq0
returns-then-unreached-eq0 c = word-all c.loop-unreached.invariant c.if-unreached-eq0.true

pub overflow_sub-result : goal.overflow_sub-result
overflow_sub-result c = unreached-le c.loop-unreached.invariant

pub returns-then-frontier-eq0 : goal.returns-then-frontier-eq0
returns-then-frontier-eq0 c = word_first c.loop-unreached.invariant c.if-frontier-eq0.true

-- the badge at hand is one of the word's
low : (c : goal.Else-frontier-eq0) → count_trailing_zeros word_bits c.loop-unreached.frontier < word_bits
low c = (word-at-hand c.loop-unreached.invariant c.if-frontier-eq0.false).1

pub overflow_cast-u : goal.overflow_cast-u
overflow_cast-u c = omega (arith, low (goal.at.overflow_cast-u c).Else-frontier-eq0)

pub overflow_mul-met : goal.overflow_mul-met
overflow_mul-met c = omega (arith, low (goal.at.overflow_mul-met c).Else-frontier-eq0)

pub offset_bounds-rows-u : goal.offset_bounds-rows-u
offset_bounds-rows-u c = omega (arith, low (goal.at.offset_bounds-rows-u c).Else-frontier-eq0)

pub bounds-rows-u : goal.bounds-rows-u
bounds-rows-u c = omega (arith, low (goal.at.bounds-rows-u c).Else-frontier-eq0)

-- the lower word of its row, and who is met: those in it that are unreached
abbrev row : goal.Else-frontier-eq0 → ℕ
row c = get_or c.args.rows.now (count_trailing_zeros word_bits c.loop-unreached.frontier * set_words) 0

met : (c : goal.Else-frontier-eq0) → row c < 2 ^ word_bits
    → intersection (graph c.args.rows.now (count_trailing_zeros word_bits c.loop-unreached.frontier)) c.loop-unreached.unreached ≡ bit_and (row c) c.loop-unreached.unreached
met c w = row-met c.args.rows.now _ _ c.told-rows (low c) w c.loop-unreached.invariant.low

pub overflow_sub-unreached-in-loop-unreached : goal.overflow_sub-unreached-in-loop-unreached
overflow_sub-unreached-in-loop-unreached c = omega (arith, and_le_r (row (goal.at.overflow_sub-unreached-in-loop-unreached c).Else-frontier-eq0) c.loop-unreached.unreached)

pub loop-unreached-smaller : goal.loop-unreached-smaller
loop-unreached-smaller c = word_fewer c.loop-unreached.invariant c.if-frontier-eq0.false (row (goal.at.loop-unreached-smaller c).Else-frontier-eq0) (met (goal.at.loop-unreached-smaller c).Else-frontier-eq0 (omega arith))

pub loop-unreached-preserved : goal.loop-unreached-preserved
loop-unreached-preserved c = word_more c.loop-unreached.invariant c.if-frontier-eq0.false (row (goal.at.loop-unreached-preserved c).Else-frontier-eq0) (met (goal.at.loop-unreached-preserved c).Else-frontier-eq0 (omega arith))
