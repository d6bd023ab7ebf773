-- For proofs: names of graph_run, for the higher crates.
unfoldable pub use Rattle.graph_run.specs.Counting.{copies_made}
pub use Rattle.graph_run.specs.Packets.{is_of, packet_of, packets_taken}
pub use Rattle.graph_run.specs.Running.{profiles_of}
