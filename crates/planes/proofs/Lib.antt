-- Laws of numbers in lanes, for the proofs of this crate and of those that depend on it.
pub mod Lanes
pub mod LeadingLanes
