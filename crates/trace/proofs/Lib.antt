-- Laws of the definitions in specs/, from the bottom up. Other crates cite TraceCall.

-- the loop over the badges of a tick, and the loop over the ticks
pub mod Turns
pub mod WordTurns
pub mod SweepSteps
-- the call: its answers in the order of judging, and its promise
pub mod TraceCall
