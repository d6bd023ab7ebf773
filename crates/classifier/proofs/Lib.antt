pub mod Bursts
mod ClassRows
pub mod Firsts
mod Rows
