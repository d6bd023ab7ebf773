pub mod Judging
pub mod Kept
pub mod Lines
pub mod Making
pub mod Orders
pub mod Settings
