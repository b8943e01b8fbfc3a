-- Laws of the definitions in specs/, from the bottom up.
pub mod Chains
pub mod Growing
pub mod CircleLists
pub mod CohesiveCircles
pub mod Walking
pub mod WordWalks
pub mod Counting
