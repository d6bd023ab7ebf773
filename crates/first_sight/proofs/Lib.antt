pub mod Noting
pub mod Places
pub mod Rows
pub mod Sameness
pub mod Telling
