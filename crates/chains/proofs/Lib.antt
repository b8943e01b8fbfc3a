-- Laws of the definitions in specs/, from the bottom up, for the proofs of the crates that depend on it.

-- chains
pub mod Chains
-- a trace by the tick and the source of each badge
pub mod TicksFirst
-- the sweep: a set that spreads in a tick, who is reached by chains, the tick and the source of each badge
pub mod Spreading
pub mod Reachable
pub mod Arrivals
-- the sweep's bytes are the trace, and the only one
pub mod Followed
pub mod TraceForm
pub mod TraceUnique
-- what follows from the statement
pub mod TraceLaws
-- what is judged before 9
pub mod Judging
