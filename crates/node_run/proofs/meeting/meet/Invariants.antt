use Rattle.std.proofs.Common.{◌≡◌, ◌≤◌}
use Rattle.packet_messages.specs.Turns.{columns_from}
use Rattle.stage_nodes.specs.Streams.{came_from}
use Rattle.node_run.proofs.meeting.meet.Given as goal

abbrev pub invariant-loop-merger : goal.invariant-loop-merger
invariant-loop-merger g l =
    (l.ends.items ≡ columns_from l.mergers 0 l.merger (came_from g.F.BranchWork.kit l.touches l.functions g.D.LinkDue.due)) ×
    (l.inlets.items ≡ columns_from l.mergers 0 l.merger (came_from g.F.BranchWork.kit l.touches l.functions g.D.LinkDue.due)) ×
    (l.merger ≤ l.mergers)
