pub mod Cutting
pub mod Staging
