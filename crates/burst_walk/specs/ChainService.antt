-- Believed: names of chain_service, for the higher crates.
pub use Rattle.policy_chains.specs.NamedFunctions.{named_behaviour, named_lines}
unfoldable pub use Rattle.policy_chains.specs.Services.{cut}
pub use Rattle.policy_chains.specs.Services.{Chains, service_among, service_of}
pub use Rattle.policy_chains.specs.declared.named.NamedFunction.{NamedFunction}
