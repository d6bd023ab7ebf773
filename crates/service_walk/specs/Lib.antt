pub mod Service
pub mod Weaving
