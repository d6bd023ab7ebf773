-- Believed: names of burst_walk, for the higher crates.
unfoldable pub use Rattle.capture_report.specs.BurstWalk.{chains_behind, fates_of}
