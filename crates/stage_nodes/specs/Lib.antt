pub mod Streams
pub mod Flows
pub mod Dues
pub mod Giving
pub mod Turns
pub mod Gathering
pub mod Meetings
