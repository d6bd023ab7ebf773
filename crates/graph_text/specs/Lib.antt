pub mod Chains
pub mod Faults
pub mod Forms
pub mod Graphs
pub mod Listing
pub mod Soundness
pub mod Standing
pub mod Steps
