-- Laws of the definitions in specs/, from the bottom up. Other crates cite Sums, JoinCall and Heard.
pub mod Sums
pub mod JoinCall
pub mod Heard
-- the words, counted and joined
pub mod Sorting
pub mod Quorums
pub mod JoinSteps
