-- Laws of in-degrees, from the bottom up: the transposed graph, their numbers in lanes, dropping all low badges at once, and the highest core by rising
-- orders. Other crates cite Columns.
pub mod Columns
pub mod CountedLanes
pub mod CountedDegrees
pub mod Settling
pub mod Climbing
