-- Laws of the definitions in specs/, from the bottom up. Theorems has the promises; the listing program cites Filling.
pub mod Digits
pub mod Appended
pub mod PrepareCall
pub mod LinesShown
pub mod Filling
pub mod LineLengths
pub mod Listed
pub mod Theorems
