-- Laws of the definitions in specs/, from the bottom up, for the proofs of the crates that depend on it.

-- spans: their rows, the sets of an order on them, and the circles of a set
pub mod SpanRows
pub mod Reviews
pub mod OrderSets
pub mod SpanCircles
-- records in bytes
pub mod Forms
pub mod Encoding
pub mod Decoding
-- the report: maximal cores, thresholds, and the statement of whole cores
pub mod Maximal
pub mod KeptRecords
pub mod KeptCores
pub mod GroupOrder
pub mod GroupLists
-- the records by circles, and the group statement
pub mod RecordLists
pub mod CircleStated
pub mod StatedRecords
pub mod GroupedRecords
-- the plan: parts, and the plan statement
pub mod PlanParts
-- how many cores a day has, how many records they make, and how long a report is
pub mod MostGroups
pub mod MostRecords
-- what is judged before 9
pub mod Judging
