-- Proofs of the tables in specs/: Cases has the three theorems, and the others what they are made of.
pub mod Tables
pub mod Computing
pub mod Cases
