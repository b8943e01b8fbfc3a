-- Cutting the ticks of a day into runs: what a reader has to believe. Laws are in proofs/.
pub mod Cuttings
pub mod Sums
pub mod Steps
