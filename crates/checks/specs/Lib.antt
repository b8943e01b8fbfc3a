-- The check of words, and rows in an array: what a reader has to believe. Laws are in proofs/. (`Changes` and `Scan` are cited by private functions alone.)
pub mod Answers
pub mod Arrays
pub mod Changes
pub mod Scan
