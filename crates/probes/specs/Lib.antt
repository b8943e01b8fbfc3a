-- The calls for the tests in Rust: what a reader has to believe of them.
pub mod Listings
