mod Rows
pub mod ReadClauses
pub mod Digits
pub mod GapFilling
pub mod GroupReading
pub mod Keeping
pub mod Latest
pub mod Remaining
pub mod Sound
pub mod Splitting
pub mod Versions
