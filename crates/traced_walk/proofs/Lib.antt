pub mod AsWalked
pub mod Causes
pub mod Dropping
pub mod Following
pub mod Ways
