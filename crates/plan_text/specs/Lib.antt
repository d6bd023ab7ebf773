pub mod Plan
pub mod Putting
