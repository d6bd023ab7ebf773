-- For proofs: names of segment_run, for the higher crates.
unfoldable pub use Rattle.burst_walk.specs.SegmentRun.{copies_through}
pub use Rattle.burst_walk.specs.SegmentRunProofs.{pieces_of}
