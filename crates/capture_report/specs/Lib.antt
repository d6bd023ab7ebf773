pub mod Report
pub mod Telling
pub mod BurstWalk
pub mod BurstWalkProofs
pub mod ChainService
pub mod ChainServiceProofs
pub mod GraphRun
pub mod SegmentRun
