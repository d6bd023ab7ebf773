mod Rests
mod Rows
mod Sweeps
pub mod Turning
mod Dealt
mod Giving
mod Taking
mod Boxing
