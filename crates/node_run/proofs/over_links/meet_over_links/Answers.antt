use Rattle.std.proofs.Common.{◌<◌, ◌+◌, ◌∙◌, ◌∷◌, length, drop, slice_index_or, arith, ap, sym}
use Rattle.std.proofs.lemmas.List.{drop_more}
use Rattle.merge_ops.specs.Behind.{no_touch}
use Rattle.node_run.proofs.Meets.{none_linked, linked_more, all_linked, shares_many}
use Rattle.node_run.proofs.over_links.meet_over_links.Goals as goal

pub loop-branch-init : goal.loop-branch-init
loop-branch-init g c = (none_linked g.F.BranchWork.kit _ _ _ _ _ _ c.new-ends.ensures, none_linked g.F.BranchWork.kit _ _ _ _ _ _ c.new-inlets.ensures)

pub branch_link-requires-clause-some : goal.branch_link-requires-clause-some
branch_link-requires-clause-some g c = c.requires.some

pub branch_link-requires-clause-few : goal.branch_link-requires-clause-few
branch_link-requires-clause-few g c = c.requires.few

pub branch_link-requires-clause-many : goal.branch_link-requires-clause-many
branch_link-requires-clause-many g c = c.requires.many

pub loop-branch-preserved : goal.loop-branch-preserved
loop-branch-preserved g c =
    let k = g.F.BranchWork.kit in
    let fs = c.args.functions.now in
    let j = c.loop-branch.branch in
    let lt : j < length c.args.touches.now = omega (arith, c.loop-branch-test.true, c.requires.owners) in
    let d = drop_more c.args.touches.now j no_touch lt in
    let f = drop_more fs j c.index-functions-branch.result c.loop-branch-test.true ∙ ap (λ y. y ∷ drop (j + 1) fs) (sym c.index-functions-branch.is) in
    let touch = slice_index_or c.args.touches.now j no_touch in
    let i = c.loop-branch.invariant in
    let e = c.in_ok-outlet.ensures in (
      linked_more k c.args.touches.now fs c.args.mergers c.args.merger g.D.LinkDue.due j _ _ _ touch c.index-functions-branch.result i.0 lt d f (c.of_link.ensures ∙ e.0) c.in_ok-push.ensures,
      linked_more k c.args.touches.now fs c.args.mergers c.args.merger g.D.LinkDue.due j _ _ _ touch c.index-functions-branch.result i.1 lt d f e.1 c.in_ok-push-2.ensures,
    )

pub of_links-requires-clause-some : goal.of_links-requires-clause-some
of_links-requires-clause-some g c =
    let k = g.F.BranchWork.kit in
    let long = shares_many k _ _ _ _ _ _ (all_linked k _ _ _ _ _ _ _ c.loop-branch.invariant.1 c.loop-branch-test.false c.requires.owners) c.requires.owners in
    omega (arith, long, c.requires.branches.0)

pub of_links-requires-clause-few : goal.of_links-requires-clause-few
of_links-requires-clause-few g c =
    let k = g.F.BranchWork.kit in
    let long = shares_many k _ _ _ _ _ _ (all_linked k _ _ _ _ _ _ _ c.loop-branch.invariant.1 c.loop-branch-test.false c.requires.owners) c.requires.owners in
    omega (arith, long, c.requires.branches.1)

pub returns-clause-ends : goal.returns-clause-ends
returns-clause-ends g c = all_linked g.F.BranchWork.kit _ _ _ _ _ _ _ c.loop-branch.invariant.0 c.loop-branch-test.false c.requires.owners

pub returns-clause-inlets : goal.returns-clause-inlets
returns-clause-inlets g c = c.in_ok-from_branches.ensures ∙ all_linked g.F.BranchWork.kit _ _ _ _ _ _ _ c.loop-branch.invariant.1 c.loop-branch-test.false c.requires.owners
