-- Believed: names of segment_run, for the higher crates.
unfoldable pub use Rattle.segment_run.specs.Counting.{copies_through}
