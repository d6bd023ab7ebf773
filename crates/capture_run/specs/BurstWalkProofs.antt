-- For proofs: names of burst_walk, for the higher crates.
pub use Rattle.capture_report.specs.BurstWalkProofs.{number_of}
