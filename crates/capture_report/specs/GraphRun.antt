-- For proofs: names of graph_run, for the higher crates.
unfoldable pub use Rattle.burst_walk.specs.GraphRun.{copies_made}
