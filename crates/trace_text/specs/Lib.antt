pub mod Kept
pub mod Trace
pub mod Values
