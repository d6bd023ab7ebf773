use Rattle.std.proofs.Common.{subst, sym, All}
use Rattle.node_run.specs.Crews.{CrewKeeps, GivesTogether}
use Rattle.node_run.specs.Nodes.{is_going}
use Rattle.node_run.proofs.Crewing.{all_going}
use Rattle.node_run.proofs.Grouping.{group_keeps}
use Rattle.node_run.proofs.Running.{ok_so}
use Rattle.node_run.proofs.in_turn.run_group.Goals as goal

pub run_beside-requires-clause-going : goal.run_beside-requires-clause-going
run_beside-requires-clause-going g c κs within = subst (All (is_going g.F.BranchWork.kit g.F.BranchWork.may)) (sym c.into_nodes.ensures) (all_going g.F.BranchWork.kit g.F.BranchWork.may _ c.requires.ready)

pub returns : goal.returns
returns g c = ok_so (GivesTogether c.in_ok-dones.dones.items) (CrewKeeps g.F.BranchWork.kit c.args.group) c.keep_all.result c.keep_all.ensures
    (λ done together. group_keeps g.F.BranchWork.kit g.F.BranchWork.may _ _ _ done c.into_nodes.ensures c.requires.ready c.in_ok-dones.ensures.count c.in_ok-dones.ensures.each together)
