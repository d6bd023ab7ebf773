use Rattle.std.proofs.Common.{map}
use Rattle.packet_messages.specs.Turns.{share}
use Rattle.stage_nodes.specs.Streams.{came_from}
use Rattle.node_run.proofs.meeting.meet_merger.Given as goal

abbrev pub ghosts-meet_on_board : goal.ghosts-meet_on_board
ghosts-meet_on_board g a = record { due = map (share a.mergers a.merger) (came_from g.F.BranchWork.kit a.touches.now a.functions.now g.D.LinkDue.due) }
