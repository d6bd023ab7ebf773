-- For proofs: names of capture_report, for the higher crates.
pub use Rattle.capture_report.specs.declared.ended.Ended.{Ended}
