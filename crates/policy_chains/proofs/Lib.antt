pub mod Counted
pub mod CutSoFar
pub mod Joined
pub mod Joining
pub mod Profiled
pub mod Shown
pub mod Taking
