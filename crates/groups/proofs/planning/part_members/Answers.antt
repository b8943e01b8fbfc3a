-- `part_members` meets its contract: at score 0 these are the badges under review, and else the core of the order that is the score, found from the run's rows.
use native.Mathlib.Omega.{arith}
use Rattle.sets.specs.Members.{members}
use Rattle.groups.proofs.PartFound.{members-all, members-core}
use Rattle.groups.proofs.planning.part_members.Goals as goal

pub returns-then-score-eq0 : goal.returns-then-score-eq0
returns-then-score-eq0 c =
    let d = c.args.day.now in
    members-all d.lent c.args.span.rising c.requires.0 d.reviewed (members c.args.query) c.requires.1 c.if-score-eq0.true

pub returns : goal.returns
returns c =
    let d = c.args.day.now in
    members-core d.lent c.args.span.rising c.requires.0 d.reviewed (members c.args.query) c.requires.1 c.span_rows-rows.ensures (omega (arith, c.if-score-eq0.false)) c.highest-core.ensures
