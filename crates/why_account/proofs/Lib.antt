pub mod Adding
pub mod Counts
pub mod Naming
pub mod Noting
pub mod Parts
