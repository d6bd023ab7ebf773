pub mod Carrying
pub mod Rows
pub mod Sending
pub mod Splitting
