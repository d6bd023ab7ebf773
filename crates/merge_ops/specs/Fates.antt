-- For proofs: what becomes of a packet after the last stage.
use Rattle.chain_walk.specs.declared.walk.Fate.{Fate}
use Rattle.chain_walk.specs.declared.walk.Fate.TheVariants as fates
use Rattle.packet_version.specs.Splitting.{joined}
use Rattle.merge_ops.specs.declared.merging.Merged.{Merged}
use Rattle.merge_ops.specs.declared.merging.Merged.TheVariants.{Whole, Gone, Short}

-- it goes out with its parts joined to a frame, or was dropped; no packet of a run is short
abbrev pub fate_behind : Merged → Fate
fate_behind (Whole whole) = fates.Out (joined whole)
fate_behind (Gone p) = fates.Gone p
fate_behind Short = fates.Gone 0
