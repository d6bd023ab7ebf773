-- For proofs: names of graph_run, for the higher crates.
unfoldable pub use Rattle.chain_service.specs.SegmentRunProofs.{copies_made}
