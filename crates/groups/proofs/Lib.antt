-- Laws of the definitions in specs/, from the bottom up. Other crates cite ReportTheorems and PlanTheorems.

-- the rows of spans, and the loop that narrows them
pub mod TickRows
pub mod NarrowedSides
pub mod Narrowing
-- what is found from rows: core numbers, and the loop over the spans with one first tick
pub mod RowCores
pub mod LineLoops
-- cores kept in memory, and those of a day
pub mod KeptCores
pub mod LineLaws
pub mod CoresFound
-- records in bytes, and those of a core's circles
pub mod Appended
pub mod CircleLoop
-- the report: in bytes, and as a whole
pub mod ReportBytes
pub mod ReportTheorems
-- the plan: scores, parts, in bytes, and as a whole
pub mod ScoreLines
pub mod PartFound
pub mod PlanBytes
pub mod PlanCall
pub mod PlanTheorems
