pub mod Shares
pub mod Wiring
pub mod Replicating
pub mod Edging
pub mod Meets
pub mod Running
mod Turning
mod Crewing
mod Sorting
mod Grouping
