-- The calls for C: what a reader has to believe.
pub mod Answers
