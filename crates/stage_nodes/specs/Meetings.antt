-- For proofs: what is still due between branches and mergers, over links or on a board.
use Rattle.std.specs.Prelude.{List}
use Rattle.packet_version.specs.Versions.{PlainVersion}
use Rattle.packet_messages.specs.Messages.{PlainMessage}
use Rattle.stage_nodes.specs.declared.to_mergers.Outward.{Outward}
use Rattle.stage_nodes.specs.declared.to_mergers.Outward.TheVariants as out
use Rattle.stage_nodes.specs.declared.from_branches.Inward.{Inward}
use Rattle.stage_nodes.specs.declared.from_branches.Inward.TheVariants as into

-- from a branch to a merger
abbrev pub due_outward : Outward → List (PlainMessage PlainVersion)
due_outward (out.Link outlet) = outlet
due_outward (out.Board outlet) = outlet

-- from each branch to a merger
abbrev pub due_inward : Inward → List (List (PlainMessage PlainVersion))
due_inward (into.Links rows) = rows
due_inward (into.Board rows) = rows
