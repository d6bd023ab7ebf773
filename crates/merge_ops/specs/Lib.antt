pub mod Merging
pub mod Taking
pub mod Behind
pub mod Fates
