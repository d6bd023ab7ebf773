-- For proofs: names of segment_run and of the crates below it, for the higher crates.
unfoldable pub use Rattle.segment_run.specs.GraphRun.{copies_made}
pub use Rattle.segment_run.specs.GraphRun.{is_of, packet_of, packets_taken}
pub use Rattle.segment_run.specs.Segments.{functions_count, piece_of, pieces_of}
pub use Rattle.segment_run.specs.declared.piece.Piece.{Piece}
