-- For proofs: the versions and arrivals of a stage, as the law of graphs sees them.
use Rattle.std.specs.Prelude.{ℕ}
use Rattle.chain_walk.specs.Shown.{Values}
use Rattle.chain_walk.specs.FieldWalk.{End, End.Out, End.Gone}
use Rattle.graph_law.specs.Branches.{Version, BranchEnd, BranchEnd.Live, BranchEnd.Nil}
use Rattle.packet_version.specs.Parts.{as_list, values_of, writers_of}
use Rattle.packet_version.specs.Splitting.{PlainApart, packet_parts}
use Rattle.packet_version.specs.Versions.{PlainVersion, version_parts}
use Rattle.packet_version.specs.Views.{rewritten_by}
use Rattle.merge_ops.specs.declared.arrival.Arrival.{Arrival}
use Rattle.merge_ops.specs.declared.arrival.Arrival.TheVariants as came
use Rattle.merge_ops.specs.declared.merging.Merged.{Merged}
use Rattle.merge_ops.specs.declared.merging.Merged.TheVariants as ends

-- the values and the last writers of a version
abbrev pub as_version : PlainVersion → Version
as_version version = record { values = values_of (version_parts version); writers = writers_of (version_parts version) }

-- a branch's result; no branch of a run is short
abbrev pub as_branch_end : Arrival → BranchEnd
as_branch_end (came.Version version) = Live (as_version version)
as_branch_end (came.Nil position) = Nil position
as_branch_end came.Short = Nil 0

-- the values of a packet in parts
abbrev pub values_in : PlainApart → Values
values_in whole = values_of (packet_parts whole)

-- what becomes of a packet after a stage; no packet of a run is short
abbrev pub as_end : Merged → End
as_end (ends.Whole whole) = Out (values_in whole)
as_end (ends.Gone position) = Gone position
as_end ends.Short = Gone 0

-- the version after the function at this position wrote these values
abbrev pub wrote_at : ℕ → Values → PlainVersion → PlainVersion
wrote_at position new version = record version { parts = as_list (λ f. rewritten_by (new f) position (version_parts version f)) }
