pub mod Options
pub mod Times
pub mod Blocks
pub mod Written
pub mod Reader
