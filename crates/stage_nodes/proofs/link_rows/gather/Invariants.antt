use Rattle.std.specs.Prelude.{◌≤◌, length}
use Rattle.std.specs.Vec.{vec_capacity}
use Rattle.stage_nodes.proofs.Gathering.{HasGathered}
use Rattle.stage_nodes.proofs.link_rows.gather.Given as goal

abbrev pub invariant-loop-branch : goal.invariant-loop-branch
invariant-loop-branch g l = HasGathered l.fn.inlets l.inlets l.table l.packet l.branch l.row.items × (length l.fn.inlets ≤ vec_capacity l.row)
