pub mod Turns
pub mod Frames
pub mod Places
pub mod Standing
pub mod Settling
