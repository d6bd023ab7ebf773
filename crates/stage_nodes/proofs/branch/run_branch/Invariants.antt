use Rattle.std.proofs.Common.{◌≡◌, ◌-◌, false}
use Rattle.stage_nodes.specs.Turns.{BranchOwes}
use Rattle.stage_nodes.proofs.branch.run_branch.Given as goal

abbrev pub invariant-loop-version : goal.invariant-loop-version
invariant-loop-version g l = record {
  owes : (end : _) → BranchOwes g.F.BranchWork.kit g.F.BranchWork.may end l.fn.branch → BranchOwes g.F.BranchWork.kit g.F.BranchWork.may end l.branch;
  ample : l.branch.to.short ≡ false → l.fn.branch.to.short ≡ false;
  count : l.branch.count ≡ l.fn.branch.count - l._version;
}
