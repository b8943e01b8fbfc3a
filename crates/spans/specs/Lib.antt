-- The spans of a day, the cores on them, reports and plans as lists of records and in bytes, and what is judged before them: what a reader has to believe. Laws are in proofs/.
-- (No promise rests on `LongerSpans`.)
pub mod Spans
pub mod Contacts
pub mod Reviews
pub mod SpanCores
pub mod LongerSpans
pub mod Reports
pub mod KeptGroups
pub mod CircleRecords
pub mod Grouping
pub mod Plans
pub mod Encoding
pub mod Judging
pub mod GroupStatement
pub mod CoreStatement
pub mod PlanStatement
