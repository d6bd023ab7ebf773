-- For proofs: names of segment_run, for the higher crates.
pub use Rattle.chain_service.specs.SegmentRunProofs.{Piece, piece_of, pieces_of}
