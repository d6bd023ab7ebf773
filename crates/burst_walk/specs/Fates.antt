-- Believed: names of policy_chains, for the higher crates.
pub use Rattle.policy_chains.specs.Fates.{classed, all_classed}
unfoldable pub use Rattle.policy_chains.specs.Fates.{fates_of, chains_behind}
