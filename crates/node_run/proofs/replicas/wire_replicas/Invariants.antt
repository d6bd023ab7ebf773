use Rattle.std.proofs.Common.{map}
use Rattle.stage_nodes.specs.Streams.{parted}
use Rattle.node_run.proofs.replicas.wire_replicas.Given as goal

abbrev pub ghosts-version_fan : goal.ghosts-version_fan
ghosts-version_fan g a = record { due = map (parted a.touch) g.D.LinkDue.due }
