pub mod Clashing
pub mod Covered
pub mod Denied
pub mod Meant
pub mod Steps
