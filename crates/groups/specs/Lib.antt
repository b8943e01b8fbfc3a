-- The calls of the group part: what a reader has to believe. Laws are in proofs/. (`Steps`, `Lines`, `Keeping`, `Appending` and `Scoring` are
-- cited by private functions alone.)
pub mod Refusals
pub mod Steps
pub mod Calls
pub mod GroupReports
pub mod ShiftPlans
pub mod Lines
pub mod Keeping
pub mod Appending
pub mod Scoring
