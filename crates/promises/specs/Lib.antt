-- What reading, joining, tidying, writing and core numbers promise, over any call: what a reader has to believe. Laws are in proofs/.
pub mod Reading
pub mod Joining
pub mod Tidying
pub mod WrittenDays
pub mod CoreNumbers
-- what a review is held against
pub mod Reviews
-- the days on which they and the plan are tried
pub mod D1
pub mod Ties
-- what a report by circles is held against
pub mod Circles
-- the trace of a log, and what a trace is held against
pub mod Tracing
