pub mod Deciding
pub mod Replicas
pub mod SameFlow
pub mod SameFlowLaws
