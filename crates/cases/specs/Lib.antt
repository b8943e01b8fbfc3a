-- The worked cases of document 01, and of the requests of document 02: what a reader has to believe. `Table` lies beside document 01's section
-- "Day D1 and its neighbours"; proofs are in proofs/.
pub mod RecordBytes
pub mod Rows
pub mod Table
pub mod Further
pub mod Example
pub mod Requests
pub mod BiggerWards
