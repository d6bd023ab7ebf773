pub mod Rule
pub mod Steps
pub mod Ends
pub mod Kept
