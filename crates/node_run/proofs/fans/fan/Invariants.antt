use Rattle.std.proofs.Common.{◌≡◌}
use Rattle.packet_messages.specs.Turns.{share, shares_from}
use Rattle.node_run.proofs.fans.fan.Given as goal

abbrev pub ghosts-share_edge : goal.ghosts-share_edge
ghosts-share_edge g a = record { due = share a.mergers a.merger g.D.LinkDue.due }

abbrev pub invariant-loop-merger : goal.invariant-loop-merger
invariant-loop-merger g l =
    (l.outlets ≡ shares_from l.mergers 0 l.merger g.D.LinkDue.due) × (l.inlets ≡ shares_from l.mergers 0 l.merger g.D.LinkDue.due)
