pub mod Counted
pub mod Dropping
pub mod Naming
