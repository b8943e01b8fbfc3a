-- `find_line` meets its contract: at the turn of a last tick the spans that end before it have been found.
use mathlib.Core.Path.{refl}
use native.Mathlib.Omega.{arith}
use Rattle.sets.specs.Words.{from_words}
use Rattle.sets.specs.Members.{members}
use Rattle.records.proofs.WithinLimits.{limits_of}
use Rattle.checks.proofs.TickRows.{unites}
use Rattle.innermost.proofs.Columns.{symmetric-highest}
use Rattle.groups.specs.Lines.{at}
use Rattle.groups.proofs.Narrowing.{empty-zeros}
use Rattle.groups.proofs.RowCores.{rows-symmetric, united-sub}
use Rattle.groups.proofs.LineLoops.{CoreAsked, bounds-meet, core-found, finding-start, finding-asks, finding-next, finding-end}
use Rattle.groups.proofs.lines.find_line.Goals as goal
use Rattle.groups.proofs.lines.find_line.Goals.{In-loop-last}

-- what is asked of the span that ends with the last tick at hand
asked : (c : goal.In-loop-last) →
    let l = c.loop-last in
    let d = c.args.day.now in CoreAsked d.badges d.ticks d.words.now (members d.review) (members c.args.query) c.args.first l.last (at l.line l.last).order l.upper l.rows l.reached
asked c = let d = c.args.day.now in finding-asks d.lent d.reviewed c.requires.0 c.requires.1 c.loop-last.invariant c.loop-last-test.true

pub first_rows-requires : goal.first_rows-requires
first_rows-requires c = (c.requires.0, empty-zeros _)

pub loop-last-init : goal.loop-last-init
loop-last-init c = let d = c.args.day.now in finding-start d.lent d.reviewed c.requires.0 c.requires.1 c.first_rows.ensures

pub offset_bounds-line-last : goal.offset_bounds-line-last
offset_bounds-line-last c = omega (arith, c.loop-last-test.true, (limits_of c.args.day.now.lent.limits).short)

pub bounds-line-last : goal.bounds-line-last
bounds-line-last c = omega (arith, c.loop-last-test.true, (limits_of c.args.day.now.lent.limits).short)

pub offset_bounds-line-last-then-upper-lower : goal.offset_bounds-line-last-then-upper-lower
offset_bounds-line-last-then-upper-lower c = omega (arith, c.loop-last-test.true, (limits_of c.args.day.now.lent.limits).short)

pub bounds-line-last-then-upper-lower : goal.bounds-line-last-then-upper-lower
bounds-line-last-then-upper-lower c = omega (arith, c.loop-last-test.true, (limits_of c.args.day.now.lent.limits).short)

pub loop-last-preserved-then-upper-lower : goal.loop-last-preserved-then-upper-lower
unfolding from_words
loop-last-preserved-then-upper-lower c =
    let i = (goal.at.loop-last-preserved-then-upper-lower c).In-loop-last in
    let d = c.args.day.now in
    finding-next d.lent d.reviewed c.requires.0 c.requires.1 c.loop-last.invariant c.loop-last-test.true _ refl refl (bounds-meet (asked i) c.if-upper-lower.true)

pub narrow_to-requires : goal.narrow_to-requires
narrow_to-requires c =
    let i = asked (goal.at.narrow_to-requires c).In-loop-last in
    (i.span.inside, i.rows_to)

pub offset_bounds-line-last-in-loop-last : goal.offset_bounds-line-last-in-loop-last
offset_bounds-line-last-in-loop-last c = omega (arith, c.loop-last-test.true, (limits_of c.args.day.now.lent.limits).short)

pub bounds-line-last-in-loop-last : goal.bounds-line-last-in-loop-last
bounds-line-last-in-loop-last c = omega (arith, c.loop-last-test.true, (limits_of c.args.day.now.lent.limits).short)

pub loop-last-preserved : goal.loop-last-preserved
loop-last-preserved c =
    let i = asked (goal.at.loop-last-preserved c).In-loop-last in
    let d = c.args.day.now in
    let e = c.narrow_to.ensures in
    let b = unites (omega (arith, (limits_of d.lent.limits).few)) _ c.united-met.ensures in
    let t = c.intersection-base.ensures in
    let back = c.highest_core-core.ensures.back in
    let q = symmetric-highest (rows-symmetric i.span e _ (united-sub i.span e b d.reviewed.named t)) c.highest_core-core.ensures in
    let found = core-found i e b t (record { order = q.order; members = q.members }) (rw back at c.count_core-counts.ensures.counted) in
    rw back (finding-next d.lent d.reviewed c.requires.0 c.requires.1 c.loop-last.invariant c.loop-last-test.true _ refl refl found)

pub returns : goal.returns
returns c = finding-end c.loop-last.invariant c.loop-last-test.false
