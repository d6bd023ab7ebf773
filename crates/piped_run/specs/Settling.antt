-- For proofs: the functions of a branch after a burst, with what they noted settled.
use Rattle.std.specs.Prelude.{List}
use Rattle.chain_walk.specs.Notes.{Notes}
use Rattle.burst_law.specs.Bursts.{Message}
use Rattle.burst_law.specs.Noting.{settled_listed}
use Rattle.stream_law.specs.Owned.{PlainOwned}

-- the functions of a branch, after all that it listed is settled
abbrev pub settled_own : {F N : Type 0} → Notes F N → List Message → PlainOwned F N → List F
settled_own notes ends o = settled_listed notes o.positions ends o.functions o.listed
