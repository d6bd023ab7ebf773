-- For proofs: names of chain_service, for the higher crates.
pub use Rattle.chain_service.specs.Fitting.{FitAll}
pub use Rattle.chain_service.specs.Opening.{IsOpening, IsOpeningChain, chains_of, fits_of, pieces_in}
pub use Rattle.policy_chains.specs.StateRows.{named_rows}
pub use Rattle.chain_service.specs.declared.service.Service.{Service}
pub use Rattle.chain_service.specs.declared.service.ServiceChain.{ServiceChain}
