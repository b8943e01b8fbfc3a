-- The promises proved of the calls, and substitutes refuted. The listing's crate cites ReadTheorems and WordsAfter; no other crate cites any.

-- reading, tidying and writing
pub mod ReadTheorems
pub mod TidyTheorems
pub mod WriteTheorems
-- small logs and days, on which substitutes are tried
pub mod SmallLogs
pub mod SmallDays
-- substitutes for reading, tidying and writing
pub mod ReadSubstitutes
pub mod TidySubstitutes
pub mod WriteSubstitutes
-- core numbers
pub mod NumberTheorems
-- days with the same cores; words after the day; and a review held against the calls without one
pub mod SameCores
pub mod WordsAfter
pub mod ReviewTheorems
-- what the promise of the plan comes to
pub mod PlanPromise
-- substitutes for core numbers, the report and the plan
pub mod NumberSubstitutes
pub mod ReportSubstitutes
pub mod ThresholdSubstitutes
pub mod PlanSubstitutes
pub mod PlanOrders
pub mod ReviewSubstitutes
pub mod CircleSubstitutes
-- the number that no refusal has
pub mod UnusedNumber
-- joining: laws of quorums, its promise proved, what the promise comes to, and substitutes
pub mod Quorums
pub mod JoinTheorems
pub mod JoinLaws
pub mod JoinSubstitutes
-- the trace: what its promise comes to, and substitutes
pub mod TraceTheorems
pub mod TraceSubstitutes
