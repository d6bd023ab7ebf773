-- For proofs: packets in parts, as the law of bursts sees them.
use Rattle.std.specs.Prelude.{ℕ, List}
use Rattle.std.specs.List.{sum_by}
use Rattle.packet_fields.specs.declared.field.Field.{Field}
use Rattle.graph_compile.specs.declared.graph.Stage.{Stage}
use Rattle.merge_ops.specs.declared.merging.Merged.{Merged}
use Rattle.merge_ops.specs.declared.merging.Merged.TheVariants.{Whole, Gone, Short}
use Rattle.burst_law.specs.Bursts.{Message, Message.Here, Message.Lost}
use Rattle.burst_law.specs.Copies.{due_in}
use Rattle.graph_run.specs.Carrying.{values_in}

-- a packet between two stages; no packet of a run is short
abbrev pub as_message : Merged → Message
as_message (Whole whole) = Here whole.fixed (values_in whole)
as_message (Gone p) = Lost p
as_message Short = Lost 0

-- the copies of a field that a stage makes of these packets
abbrev pub burst_copies : Stage → List Message → Field → ℕ
burst_copies stage ms f = sum_by (due_in f stage) ms
