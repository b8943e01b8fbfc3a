-- Verdicts, counts of cases and random numbers: what a reader has to believe. Laws are in proofs/.
pub mod Verdicts
pub mod Tallies
pub mod Random
