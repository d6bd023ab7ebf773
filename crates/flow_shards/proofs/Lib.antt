pub mod Feeding
pub mod Gathering
mod InTurn
pub mod Keeping
pub mod Keyed
pub mod Monitored
pub mod Ordering
pub mod OwnPackets
pub mod Parting
pub mod Rising
pub mod Rows
pub mod SameKeys
pub mod Seeing
pub mod Timely
pub mod TwoColumns
