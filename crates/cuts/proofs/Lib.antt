-- Laws of the definitions in specs/, for the proofs of this crate and of those that depend on it.
pub mod Cuttings
pub mod FirstCuttings
pub mod Sums
pub mod EndsOf
pub mod Greatest
pub mod Maxima
pub mod Steps
