-- Laws of the definitions in specs/, from the bottom up. Other crates cite TickRows.
pub mod WordWalks
pub mod TwoWords
pub mod TickRows
pub mod Changes
pub mod Toggled
pub mod Pairs
pub mod Walk
pub mod UpperWalk
pub mod KnownRows
pub mod Scan
