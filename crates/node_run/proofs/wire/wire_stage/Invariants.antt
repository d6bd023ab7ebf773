use Rattle.std.proofs.Common.{map}
use Rattle.stage_nodes.specs.Streams.{base_of, passed}
use Rattle.node_run.specs.Stages.{plain_stage}
use Rattle.node_run.proofs.wire.wire_stage.Given as goal

abbrev pub ghosts-base_fan : goal.ghosts-base_fan
ghosts-base_fan g a = record { due = map (base_of a.parts.now.touches) g.D.LinkDue.due }

abbrev pub ghosts-next_fan : goal.ghosts-next_fan
ghosts-next_fan g a = record { due = passed g.F.BranchWork.kit (plain_stage a.work.now) g.D.LinkDue.due }
