-- Joining the logs of several receivers: what a reader has to believe. Laws are in proofs/. (`Counting` is cited by private functions alone.)
pub mod Refusals
pub mod Joining
pub mod Counting
