pub mod Stations
pub mod Owned
pub mod Bursts
pub mod Copies
pub mod Frames
pub mod Noting
pub mod Placed
