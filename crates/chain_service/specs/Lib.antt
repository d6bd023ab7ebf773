pub mod Fitting
pub mod Opening
pub mod SegmentRun
pub mod SegmentRunProofs
