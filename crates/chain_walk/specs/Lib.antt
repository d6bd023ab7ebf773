pub mod Shown
pub mod Step
pub mod Laws
pub mod Counting
pub mod Notes
pub mod Walk
pub mod Packets
pub mod FieldWalk
