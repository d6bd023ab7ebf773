-- For proofs: names of burst_walk, for the higher crates.
unfoldable pub use Rattle.burst_walk.specs.Leading.{LeadsEach, all_ended}
pub use Rattle.burst_walk.specs.Leading.{IsClassed, IsWritable, LeadsChain, ended, records_of}
pub use Rattle.burst_walk.specs.Mergers.{number_of}
