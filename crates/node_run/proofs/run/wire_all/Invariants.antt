use Rattle.std.proofs.Common.{ℕ, List, map}
use Rattle.std.specs.Vec.Iter.{into_iter_items}
use Rattle.packet_fields.specs.declared.field.Field.{Field}
use Rattle.packet_version.specs.Splitting.{PlainApart}
use Rattle.packet_messages.specs.Messages.{PlainMessage}
use Rattle.node_run.specs.Nodes.{in_turn}
use Rattle.node_run.specs.Runs.{AreLaid}
use Rattle.node_run.specs.Stages.{plain_stage}
use Rattle.node_run.proofs.run.wire_all.Given as goal

abbrev pub ghosts-wire_stage : goal.ghosts-wire_stage
ghosts-wire_stage g a = record { due = in_turn a.count a.source }

abbrev pub invariant-loop-work : goal.invariant-loop-work
invariant-loop-work g l =
    (goal.iterator-loop-work g).can_next l.work-iterator ×
    (goal.iterator-loop-work g).is_finite l.work-iterator ×
    ((packets : List (PlainMessage PlainApart)) × (functions : _) × (copies : Field → ℕ) × AreLaid g.F.BranchWork.kit g.F.BranchWork.may l.count packets functions copies (map plain_stage (into_iter_items l.work-iterator)) l.source l.nodes.items) ×
    ((packets : List (PlainMessage PlainApart)) (functions : _) (copies : Field → ℕ) → AreLaid g.F.BranchWork.kit g.F.BranchWork.may l.count packets functions copies (map plain_stage l.fn.stages.items) l.initial.source l.fn.nodes.items →
    AreLaid g.F.BranchWork.kit g.F.BranchWork.may l.count packets functions copies (map plain_stage (into_iter_items l.work-iterator)) l.source l.nodes.items)
