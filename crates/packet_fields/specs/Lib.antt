pub mod Frames
pub mod Packets
pub mod Fields
pub mod Plans
pub mod Writing
pub mod Checksums
pub mod Changes
pub mod Outlines
