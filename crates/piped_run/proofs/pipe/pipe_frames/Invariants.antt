use Rattle.std.proofs.Common.{map}
use Rattle.stage_nodes.specs.Streams.{of_merged}
use Rattle.piped_run.specs.Frames.{apart_from}
use Rattle.piped_run.proofs.pipe.pipe_frames.Given as goal

abbrev pub ghosts-run_nodes : goal.ghosts-run_nodes
ghosts-run_nodes g a = record { due = map of_merged (apart_from a.packets) }
