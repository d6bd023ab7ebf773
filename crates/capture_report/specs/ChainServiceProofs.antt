-- For proofs: names of chain_service, for the higher crates.
pub use Rattle.burst_walk.specs.ChainService.{NamedFunction}
pub use Rattle.burst_walk.specs.ChainServiceProofs.{FitAll, IsOpening, IsOpeningChain, Service, ServiceChain, chains_of, fits_of, named_rows, pieces_in}
