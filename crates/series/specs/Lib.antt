-- Logs end to end, and how they are judged: what a reader has to believe. Laws are in proofs/.
pub mod Series
