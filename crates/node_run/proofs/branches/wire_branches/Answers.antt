use Rattle.std.proofs.Common.{sym}
use Rattle.merge_ops.specs.Behind.{no_touch}
use Rattle.node_run.proofs.Wiring.{none_left, none_wired, is_next, branch_next, ends_left, ends_own, wired_more, all_wired}
use Rattle.node_run.proofs.branches.wire_branches.Goals as goal

pub loop-work-init : goal.loop-work-init
loop-work-init g c =
    (tt, tt, none_wired g.F.BranchWork.kit g.F.BranchWork.may _ _ _ _ _ _ _ c.into_iter-work-iterator.ensures.into_iter_gives.0 c.requires.owners c.requires.take c.requires.ends c.new.ensures c.new-2.ensures.items)

pub bounds-touches-branch : goal.bounds-touches-branch
bounds-touches-branch g c = is_next g.F.BranchWork.kit g.F.BranchWork.may _ _ _ _ _ _ _ c.in-Some.work _ _ c.loop-work.invariant.2 c.in-Some.ensures.steps.0

pub next_ends-requires : goal.next_ends-requires
next_ends-requires g c =
    let b = branch_next g.F.BranchWork.kit g.F.BranchWork.may _ _ _ _ _ _ _ c.in-Some.work no_touch _ _ c.loop-work.invariant.2 c.in-Some.ensures.steps.0 in
    ends_left g.F.BranchWork.kit g.F.BranchWork.may _ _ _ _ _ c.in-Some.work _ _ b

pub wire_branch-requires : goal.wire_branch-requires
wire_branch-requires g c =
    let b = branch_next g.F.BranchWork.kit g.F.BranchWork.may _ _ _ _ _ _ _ c.in-Some.work no_touch _ _ c.loop-work.invariant.2 c.in-Some.ensures.steps.0 in record {
      some = c.requires.some;
      few_mergers = c.requires.few_mergers;
      few = c.requires.few;
      many = c.requires.many;
      take = b.take;
      ends = ends_own g.F.BranchWork.kit g.F.BranchWork.may _ _ _ _ _ c.in-Some.work _ _ _ b c.in_ok-own.ensures.row;
    }

pub loop-work-preserved : goal.loop-work-preserved
loop-work-preserved g c =
    let b = branch_next g.F.BranchWork.kit g.F.BranchWork.may _ _ _ _ _ _ _ c.in-Some.work no_touch _ _ c.loop-work.invariant.2 c.in-Some.ensures.steps.0 in
    (tt, tt, wired_more g.F.BranchWork.kit g.F.BranchWork.may _ _ _ g.D.LinkDue.due _ _ _ c.in-Some.work _ _ _ _ _ c.loop-work.invariant.2 c.in-Some.ensures.steps.0 b c.in_ok-own.ensures.after c.in_ok-wire_branch.ensures)

pub returns : goal.returns
returns g c = all_wired g.F.BranchWork.kit g.F.BranchWork.may _ _ _ _ c.loop-work.branch _ _ _ c.loop-work.invariant.2 (none_left _ _ c.in-None.ensures.steps.0 (sym c.loop-work.work-iterator.rest.ok.0))
