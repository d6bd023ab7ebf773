pub mod Fates
pub mod Leading
pub mod Mergers
pub mod ChainService
pub mod ChainServiceProofs
pub mod GraphRun
pub mod SegmentRun
pub mod SegmentRunProofs
