pub mod Owned
pub mod Works
pub mod Listed
pub mod Ready
pub mod Messages
pub mod Rests
pub mod Apart
pub mod Ended
