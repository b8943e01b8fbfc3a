-- The call of the trace: what a reader has to believe. Laws are in proofs/. (`Steps` is cited by private functions alone.)
pub mod Refusals
pub mod Calls
pub mod Tracing
pub mod Steps
