-- For proofs: names of chain_service, for the higher crates.
pub use Rattle.capture_report.specs.ChainServiceProofs.{FitAll, IsOpening, chains_of}
