mod Rows
pub mod Steps
pub mod Weighing
