-- The exposure trace: what a reader has to believe. Laws are in proofs/.
pub mod Chains
pub mod Traces
pub mod Sweep
pub mod Judging
