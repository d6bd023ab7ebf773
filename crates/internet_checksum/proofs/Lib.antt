pub mod Summing
pub mod Complements
mod Rows
