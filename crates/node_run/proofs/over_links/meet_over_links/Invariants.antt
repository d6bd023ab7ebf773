use Rattle.std.proofs.Common.{map}
use Rattle.packet_messages.specs.Turns.{share}
use Rattle.stage_nodes.specs.Streams.{parted, ran}
use Rattle.node_run.specs.Wired.{AreLinked}
use Rattle.node_run.proofs.over_links.meet_over_links.Given as goal

abbrev pub ghosts-branch_link : goal.ghosts-branch_link
ghosts-branch_link g a = record { due = share a.mergers a.merger (ran g.F.BranchWork.kit a.work.now (map (parted a.touch) g.D.LinkDue.due)) }

abbrev pub invariant-loop-branch : goal.invariant-loop-branch
invariant-loop-branch g l =
    AreLinked g.F.BranchWork.kit l.touches l.functions l.mergers l.merger g.D.LinkDue.due l.branch l.ends ×
    AreLinked g.F.BranchWork.kit l.touches l.functions l.mergers l.merger g.D.LinkDue.due l.branch l.inlets
