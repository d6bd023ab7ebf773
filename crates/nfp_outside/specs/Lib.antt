pub mod Adding
pub mod Memory
pub mod Outside
pub mod Scales
pub mod Slots
pub mod Weights
