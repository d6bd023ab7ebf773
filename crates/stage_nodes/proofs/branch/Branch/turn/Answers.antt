use Rattle.std.proofs.Common.{arith}
use Rattle.stage_nodes.proofs.Branching.{branch_next, branch_some, number_fits}
use Rattle.stage_nodes.proofs.Places.{places_turned}
use Rattle.stage_nodes.proofs.branch.Branch.turn.Goals as goal

pub turn_next-requires : goal.turn_next-requires
turn_next-requires g c = record { ready = (_, _, branch_some g.F.BranchWork.kit g.F.BranchWork.may _ _ _ _ _ _ _ _ c.if-self-eq0.false c.requires.ready.1) }

pub overflow_add-self : goal.overflow_add-self
overflow_add-self g c =
    let e = c.turn_next.ensures in
    let h = number_fits g.F.BranchWork.kit g.F.BranchWork.may _ _ _ _ _ _ _ _
    (branch_next g.F.BranchWork.kit g.F.BranchWork.may _ _ _ _ _ _ _ _ _ _ _ e.step e.first e.count (e.due _ _ (branch_some g.F.BranchWork.kit g.F.BranchWork.may _ _ _ _ _ _ _ _ c.if-self-eq0.false c.requires.ready.1))) in
    omega (arith, h)

pub returns-clause-owes : goal.returns-clause-owes
returns-clause-owes g c end owes =
    let e = c.turn_next.ensures in
    branch_next g.F.BranchWork.kit g.F.BranchWork.may _ _ _ _ _ _ end _ _ _ _ e.step e.first e.count (e.due _ end (branch_some g.F.BranchWork.kit g.F.BranchWork.may _ _ _ end _ _ _ _ c.if-self-eq0.false owes))

pub returns-clause-packets : goal.returns-clause-packets
returns-clause-packets g c some =
    let e = c.turn_next.ensures in
    places_turned _ _ _ _ _ _ c.if-self-eq0.false e.first e.step e.count
