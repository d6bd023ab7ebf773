use Rattle.std.proofs.Common.{◌∙◌, arith, sym}
use Rattle.stage_nodes.proofs.Branching.{branch_done, branch_end, branch_gave}
use Rattle.stage_nodes.proofs.branch.run_branch.Goals as goal

pub loop-version-init : goal.loop-version-init
loop-version-init g c = record { owes = λ end owes. owes; ample = λ w. w; count = omega arith }

pub turn-requires : goal.turn-requires
turn-requires g c = record { ready = (c.requires.due.0, c.loop-version.invariant.owes c.requires.due.0 c.requires.due.1) }

pub loop-version-preserved : goal.loop-version-preserved
loop-version-preserved g c = record {
  owes = λ end owes. c.turn.ensures.owes end (c.loop-version.invariant.owes end owes);
  ample = λ w. c.loop-version.invariant.ample (c.turn.ensures.ample w);
  count = omega (arith, c.turn.ensures.count, c.loop-version.invariant.count);
}

pub returns : goal.returns
returns g c =
    let i = c.loop-version.invariant in
    let s = sym c.is_short.ensures in
    let owes = i.owes c.requires.due.0 c.requires.due.1 in record {
      ample = λ w. i.ample (s ∙ w);
      functions = λ w. branch_done g.F.BranchWork.kit g.F.BranchWork.may _ _ c.args.branch.now.count c.loop-version._version _ _ _ _ _ _ c.loop-version-test.false i.count owes (s ∙ w)
          ∙ branch_end g.F.BranchWork.kit g.F.BranchWork.may _ _ _ _ _ _ _ _ c.requires.due.1 (i.ample (s ∙ w));
      given = branch_gave g.F.BranchWork.kit g.F.BranchWork.may _ _ c.args.branch.now.count c.loop-version._version _ _ _ _ _ _ c.loop-version-test.false i.count owes;
    }
