-- Believed: names of chain_service, for the higher crates.
unfoldable pub use Rattle.burst_walk.specs.ChainService.{cut}
pub use Rattle.burst_walk.specs.ChainService.{Chains, named_behaviour, named_lines, service_among, service_of}
