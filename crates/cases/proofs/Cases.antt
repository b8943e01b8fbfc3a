-- The tables hold: every row, in the order of specs/Table, specs/Further, specs/Example, specs/Requests and specs/BiggerWards, by computation from the definitions.
use mathlib.Core.Path.{refl}
use Rattle.cases.specs.Rows.{Holds, AllHold}
use Rattle.cases.specs.Table.{starred}
use Rattle.cases.specs.Further.{further}
use Rattle.cases.specs.Example.{example}
use Rattle.cases.specs.Requests.{requested}
use Rattle.cases.specs.BiggerWards.{wide_numbers, wide_report, wide_plan, wide}
use Rattle.cases.proofs.Tables.{none, ◌then◌}
use Rattle.cases.proofs.Computing.{computing}

pub starred-holds : AllHold starred
unfolding computing
starred-holds =
    -- D1, its tidy log and the variant's
    refl
    then refl
    then refl
    then refl
    then refl
    then refl
    -- core numbers
    then refl
    then refl
    -- the report
    then refl
    then refl
    then refl
    -- query {2}, h 1
    then refl
    then refl
    -- h 2
    then refl
    then refl
    then refl
    -- h 3
    then refl
    then refl
    -- h 4
    then refl
    -- query {0}
    then refl
    -- query {0,3}
    then refl
    then refl
    -- the three-badge day
    then refl
    then refl
    -- a log without CT
    then refl
    then refl
    then refl
    then refl
    -- the empty file
    then refl
    then refl
    -- a first CT 0–0
    then refl
    then refl
    then none

pub further-holds : AllHold further
unfolding computing
further-holds =
    -- read
    refl
    then refl
    then refl
    then refl
    then refl
    then refl
    then refl
    then refl
    then refl
    then refl
    then refl
    -- tidy
    then refl
    then refl
    then refl
    then refl
    then refl
    then refl
    -- write
    then refl
    then refl
    -- core numbers
    then refl
    then refl
    then refl
    then refl
    then refl
    then refl
    then refl
    then refl
    then refl
    -- the report of a day with one group inside the span of the other
    then refl
    then refl
    -- plan
    then refl
    then refl
    then refl
    then refl
    -- the listing
    then refl
    then refl
    then refl
    then refl
    then none

pub example-holds : AllHold example
unfolding computing
example-holds =
    refl
    then refl
    then refl
    then refl
    then refl
    then refl
    then refl
    then refl
    then refl
    then refl
    then refl
    then refl
    then refl
    then refl
    then refl
    then refl
    then refl
    then refl
    then refl
    then refl
    then refl
    then none

pub requested-holds : AllHold requested
unfolding computing
requested-holds =
    -- thresholds: what is kept, and how it is measured
    refl
    then refl
    then refl
    then refl
    then refl
    then refl
    then refl
    then refl
    -- 17, and its place
    then refl
    then refl
    then refl
    then refl
    then refl
    then refl
    then refl
    then refl
    then refl
    then refl
    then refl
    -- tidy: how many records come out, and its order
    then refl
    then refl
    then refl
    then refl
    then refl
    -- the first of the best cuttings
    then refl
    then refl
    then refl
    then refl
    then refl
    then refl
    then refl
    -- joining: who heard what
    then refl
    then refl
    then refl
    then refl
    then refl
    then refl
    then refl
    then refl
    then refl
    -- 19, the logs' refusals, 18 and 8
    then refl
    then refl
    then refl
    then refl
    then refl
    then refl
    then refl
    then refl
    then refl
    then refl
    then refl
    then refl
    then refl
    then refl
    then refl
    -- badges under review: what is counted, shown and planned
    then refl
    then refl
    then refl
    then refl
    then refl
    then refl
    then refl
    then refl
    then refl
    -- 20, and its place
    then refl
    then refl
    then refl
    then refl
    then refl
    then refl
    then refl
    then refl
    then refl
    then refl
    then refl
    then refl
    -- 21, and its place
    then refl
    then refl
    then refl
    then refl
    then refl
    -- circles: two records of a core, and how many members count
    then refl
    then refl
    then refl
    then refl
    then refl
    then refl
    then refl
    -- their order, domination, and the pairs of a span
    then refl
    then refl
    then refl
    -- under review, in the listing, in a plan, and core numbers
    then refl
    then refl
    then refl
    then refl
    -- the trace: ticks and sources
    then refl
    then refl
    then refl
    then refl
    then refl
    then refl
    then refl
    then refl
    then refl
    -- 22, its place, and 9
    then refl
    then refl
    then refl
    then refl
    then refl
    then refl
    then refl
    then none

-- a day of 65 badges takes longer to work out, so three of its rows stand for themselves
wide-numbers : Holds wide_numbers
unfolding computing wide_numbers
wide-numbers = refl

wide-report : Holds wide_report
unfolding computing wide_report
wide-report = refl

wide-plan : Holds wide_plan
unfolding computing wide_plan
wide-plan = refl

pub wide-holds : AllHold wide
unfolding computing
wide-holds =
    -- the day of 65 badges
    refl
    then refl
    then refl
    then wide-numbers
    then wide-report
    then wide-plan
    then refl
    -- the limits of n
    then refl
    then refl
    then refl
    -- badge 64 in a day of 64 badges
    then refl
    then refl
    then refl
    then refl
    then refl
    -- the listing
    then refl
    then none
