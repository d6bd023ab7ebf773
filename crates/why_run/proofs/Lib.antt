pub mod Chains
pub mod Ending
pub mod Gathering
pub mod HandingOn
pub mod Streaming
pub mod Told
pub mod Turns
