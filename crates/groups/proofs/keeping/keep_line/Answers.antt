-- `keep_line` meets its contract: before the turn of a last tick the cores of the spans that end before it and meet the thresholds are kept.
use mathlib.Core.Path.{◌≡◌}
use Prim.Native.Nat.{suc, ◌≤◌, ◌<◌}
use native.Mathlib.Numerals.{add-one}
use native.Mathlib.Omega.{arith}
use borrow.Author.Rules.{rules}
use Rattle.spans.specs.KeptGroups.{kept}
use Rattle.groups.specs.Keeping.{line_list}
use Rattle.groups.specs.Lines.{at}
use Rattle.groups.proofs.KeptCores.{keeps-none, line-none, line-more, line-skip, line-group, cells-le}
use Rattle.groups.proofs.keeping.keep_line.Goals as goal

pub loop-last-init : goal.loop-last-init
unfolding kept
loop-last-init c =
    let a = c.args in
    (search rules, search rules, rw (line-none a.line.now a.first) keeps-none)

pub loop-last-preserved-then-found-line : goal.loop-last-preserved-then-found-line
loop-last-preserved-then-found-line c =
    let i = c.loop-last in
    let line = c.args.line.now in
    let low : (at line i.last).order ≤ (at line (suc i.last)).order = omega (arith, rw add-one at c.if-found-line.true) in
    (search rules, search rules, line-skip line c.args.first c.args.least i.last i.invariant.0 low i.invariant.2)

pub overflow_cast-core : goal.overflow_cast-core
overflow_cast-core c = let p = c.requires in omega (arith, p.short, p.inside)

pub overflow_cast-core-in-loop-last : goal.overflow_cast-core-in-loop-last
overflow_cast-core-in-loop-last c = let p = c.requires in omega (arith, p.short, c.loop-last-test.true)

pub keep_core-requires : goal.keep_core-requires
keep_core-requires c =
    let a = c.args in
    let i = c.loop-last.invariant in
    (omega (arith, c.loop-last-test.true, i.2.number, cells-le a.line.now a.first a.least c.loop-last.last, c.requires.few), i.0)

pub loop-last-preserved : goal.loop-last-preserved
loop-last-preserved c =
    let i = c.loop-last in
    let line = c.args.line.now in
    let high : (at line (suc i.last)).order < (at line i.last).order = omega (arith, rw add-one at c.if-found-line.false) in
    (search rules, search rules, line-more line c.args.first c.args.least i.last i.invariant.0 i.invariant.2 (rw (line-group line c.args.first i.last high) at c.keep_core.ensures))

pub returns : goal.returns
unfolding line_list
returns c =
    let e : c.loop-last.last ≡ c.args.ticks = omega (arith, c.loop-last-test.false) in
    rw e at c.loop-last.invariant.2
