-- Thresholds: what a reader has to believe. Laws are in proofs/.
pub mod Ranges
