-- Believed: names of segment_run, for the higher crates.
unfoldable pub use Rattle.chain_service.specs.SegmentRun.{copies_through}
