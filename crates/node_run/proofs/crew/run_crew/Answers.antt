use Rattle.node_run.proofs.Crewing.{all_going, crew_kept, more_turned, none_turned}
use Rattle.node_run.proofs.crew.run_crew.Goals as goal

pub loop-packet-init : goal.loop-packet-init
loop-packet-init g c = none_turned g.F.BranchWork.kit g.F.BranchWork.may _ _ c.into_nodes-nodes.ensures (all_going g.F.BranchWork.kit g.F.BranchWork.may _ c.requires)

pub loop-packet-preserved : goal.loop-packet-preserved
loop-packet-preserved g c = more_turned g.F.BranchWork.kit g.F.BranchWork.may _ _ _ c.loop-packet.invariant c.turn_packet.ensures

pub returns : goal.returns
returns g c = crew_kept g.F.BranchWork.kit g.F.BranchWork.may _ _ _ c.requires c.loop-packet.invariant c.end_all.ensures
