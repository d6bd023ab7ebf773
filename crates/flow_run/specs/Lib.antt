pub mod Counting
pub mod FlowsOut
