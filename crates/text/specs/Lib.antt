-- The listing's text: what a reader has to believe. Laws are in proofs/. (Private functions alone cite
-- `Making`, but for the room of a line and the number of lines.)
pub mod Decimal
pub mod Listing
pub mod Pieces
pub mod Calls
pub mod Making
