pub mod Faultless
pub mod Finding
pub mod Giving
pub mod Latest
pub mod Lawfulness
pub mod Leading
pub mod Ordered
pub mod Reading
pub mod Repeats
mod Rows
pub mod Tests
pub mod Whole
