pub mod Classes
pub mod Cutting
