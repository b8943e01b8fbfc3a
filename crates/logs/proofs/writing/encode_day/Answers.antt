-- encode_day meets its contract: before badge u of the loop the header and the runs of the badges before u are encoded.
use mathlib.Core.Path.{◌≡◌}
use native.Mathlib.Omega.{arith}
use borrow.Author.Rules.{rules}
use Rattle.sets.specs.Tables.{concat_below}
use Rattle.days.specs.Days.{adjacent}
use Rattle.logs.specs.Tidy.{row_runs, tidy_contacts}
use Rattle.logs.specs.Writing.{Appended}
use Rattle.logs.proofs.Appending.{appends-none, appends-more, too-many, encodes-whole}
use Rattle.logs.proofs.writing.encode_day.Goals as goal
use Rattle.logs.proofs.writing.encode_day.Goals.{After-loop-u}

pub loop-u-init : goal.loop-u-init
unfolding concat_below
loop-u-init c = (search rules, appends-none _ _ (omega arith))

pub append_row-requires : goal.append_row-requires
append_row-requires c =
    (c.loop-u.invariant.1.few, search rules)

pub loop-u-preserved : goal.loop-u-preserved
loop-u-preserved c =
    let i = c.loop-u in
    let a = c.args in
    (search rules, appends-more (row_runs a.day.now.badges a.day.now.ticks (adjacent a.day.now.badges a.day.now.words.now)) i.u i.invariant.1 c.in_ok-count.ensures)

-- after the loop the runs of all badges are encoded
rows : (c : goal.After-loop-u) →
    let a = c.args in Appended (tidy_contacts a.day.now.badges a.day.now.ticks (adjacent a.day.now.badges a.day.now.words.now)) 0 c.loop-u.count c.put_record.new.buffer c.loop-u.log
unfolding tidy_contacts
rows c =
    let e : c.loop-u.u ≡ c.args.day.now.badges = omega (arith, c.loop-u-test.false) in
    rw e at c.loop-u.invariant.1

pub returns-in_err-count : goal.returns-in_err-count
unfolding tidy_contacts
returns-in_err-count c =
    let i = c.loop-u in
    let a = c.args in
    let many = too-many (row_runs a.day.now.badges a.day.now.ticks (adjacent a.day.now.badges a.day.now.words.now)) i.u a.day.now.badges (omega arith) i.invariant.1 c.in_err-count.ensures in
    rw c.from_residual.ensures (omega (arith, many))

pub returns : goal.returns
returns c =
    let l = (goal.at.returns c).After-loop-u in
    encodes-whole _ _ _ _ _ _ _ _ (rows l) (omega arith) (omega arith) l.put_record.ensures c.put_record-2.ensures
