-- The innermost core that contains a query, by in-degrees: what a reader has to believe. Laws are in proofs/. (`Counting`, `Degrees` and `Rising` are
-- cited by private functions alone.)
pub mod Columns
pub mod Counting
pub mod Degrees
pub mod Rising
