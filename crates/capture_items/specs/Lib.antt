pub mod FaultLines
pub mod Formats
pub mod Putting
pub mod Slots
pub mod Sources
pub mod Streams
pub mod Totals
