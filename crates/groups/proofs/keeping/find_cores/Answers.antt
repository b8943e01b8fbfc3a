-- `find_cores` meets its contract: before the turn of a first tick the cores that meet the thresholds on the spans that start before it are kept.
use native.Mathlib.Omega.{arith}
use Rattle.sets.specs.Words.{from_words}
use Rattle.records.proofs.WithinLimits.{limits_of}
use Rattle.groups.proofs.CoresFound.{so-far-none, so-far-room, so-far-next, so-far-end}
use Rattle.groups.proofs.keeping.find_cores.Goals as goal

pub loop-first-init : goal.loop-first-init
loop-first-init c = so-far-none c.args.day.now.lent

pub find_line-requires : goal.find_line-requires
unfolding from_words
find_line-requires c = (c.loop-first-test.true, c.loop-first.invariant.before)

pub keep_line-requires : goal.keep_line-requires
unfolding from_words
keep_line-requires c = so-far-room c.args.day.now.lent c.requires.0 c.requires.1 c.loop-first.invariant c.loop-first-test.true c.find_line.ensures

pub overflow_step-first : goal.overflow_step-first
overflow_step-first c = omega (arith, c.loop-first-test.true, (limits_of c.args.day.now.lent.limits).short)

pub loop-first-preserved : goal.loop-first-preserved
unfolding from_words
loop-first-preserved c = so-far-next c.args.day.now.lent c.requires.0 c.requires.1 c.loop-first.invariant c.loop-first-test.true c.find_line.ensures c.keep_line.ensures

pub returns : goal.returns
returns c = so-far-end c.args.day.now.lent c.requires.0 c.requires.1 c.loop-first.invariant c.loop-first-test.false
