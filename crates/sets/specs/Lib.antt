-- Sets of badges, tests, numbers and text in bytes, and lists: what a reader has to believe. Laws are in proofs/.
pub mod Bools
pub mod Sets
pub mod Bytes
pub mod Ascii
pub mod Tables
pub mod Words
pub mod Members
