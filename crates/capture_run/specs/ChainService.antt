-- Believed: names of chain_service, for the higher crates.
unfoldable pub use Rattle.capture_report.specs.ChainService.{cut}
pub use Rattle.capture_report.specs.ChainService.{Chains, service_among, service_of}
