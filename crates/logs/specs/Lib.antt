-- Tidy logs, buffers, and the calls: what a reader has to believe. Laws are in proofs/. (Private functions alone cite `Writing`
-- and `TickSets`.)
pub mod Tidy
pub mod Buffers
pub mod Writing
pub mod TickSets
pub mod Calls
