pub mod Messages
pub mod Turns
pub mod BoardRows
pub mod BoardSeats
