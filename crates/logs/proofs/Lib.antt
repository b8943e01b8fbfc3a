-- Laws of the definitions in specs/, from the bottom up. Other crates cite TidyForm, TidyCount, Delivering and TidyCall.

-- the runs of a pair, and the tidy form
pub mod Runs
pub mod PairRuns
pub mod TidyForm
pub mod TidyCount
-- the ticks in which two badges meet
pub mod TickSets
pub mod Gathering
-- the tidy log: its runs appended one after the other, and the whole put into a buffer
pub mod Delivering
pub mod Appending
-- writing and tidying as a whole
pub mod TidyCall
