pub mod Bursts
pub mod Folding
pub mod Rows
pub mod Turns
