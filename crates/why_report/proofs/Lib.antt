pub mod Counting
pub mod Raising
mod Rows
