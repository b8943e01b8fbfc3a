-- `append_core` meets its contract: a core of one circle is its own record, and the circles of any other are found from the rows of its span.
use mathlib.Core.Path.{◌≡◌, ap₂, ◌∙◌}
use native.Mathlib.Omega.{arith}
use Rattle.spans.specs.Spans.{span_words}
use Rattle.groups.proofs.ReportBytes.{whole-record, whole_room, split-circles}
use Rattle.groups.proofs.writing.append_core.Goals as goal
use Rattle.groups.proofs.writing.append_core.Goals.{After-follow}

pub append_record-requires : goal.append_record-requires
append_record-requires c = whole_room c.args.day.now.lent c.requires.1 c.if-core-eq1.true

pub returns-then-core-eq1 : goal.returns-then-core-eq1
returns-then-core-eq1 c = record { appended = rw (whole-record c.args.day.now.lent c.requires.1 c.if-core-eq1.true) c.append_record.ensures; rows = c.requires.0 }

pub follow-requires : goal.follow-requires
follow-requires c = (omega (arith, c.requires.1.inside, c.from-2.ensures), c.requires.0)

-- they become those of the core's span
found : (c : goal.After-follow) → let d = c.args.day.now in c.follow.new.rows ≡ span_words d.badges d.words.now c.args.core.first c.args.core.last
found c = c.follow.ensures ∙ ap₂ (span_words _ _) c.from.ensures c.from-2.ensures

pub append_circles-requires : goal.append_circles-requires
append_circles-requires c = rw (split-circles c.args.day.now.lent c.requires.1 (found (goal.at.append_circles-requires c).After-follow)) c.requires.1.room

pub returns : goal.returns
returns c = record { appended = rw (split-circles c.args.day.now.lent c.requires.1 (found (goal.at.returns c).After-follow)) at c.append_circles.ensures; rows = c.follow.ensures }
