pub mod Alike
pub mod Made
pub mod OfPackets
pub mod Reading
pub mod Walks
