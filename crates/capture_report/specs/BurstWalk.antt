-- Believed: names of burst_walk, for the higher crates.
unfoldable pub use Rattle.burst_walk.specs.Fates.{chains_behind, fates_of}
pub use Rattle.burst_walk.specs.Fates.{all_classed, classed}
