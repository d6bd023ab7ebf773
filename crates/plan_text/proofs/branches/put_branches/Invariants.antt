use Rattle.std.proofs.Common.{◌≡◌, ◌+◌, ◌++◌, drop}
use Rattle.plan_text.specs.Plan.{numbered, branch_text}
use Rattle.plan_text.proofs.branches.put_branches.Given as goal

-- the branches so far, and those of the rest
abbrev pub invariant-branches : goal.invariant-branches
invariant-branches l = l.out.items ++ numbered (branch_text l.functions l.order) (l.index + 1) (drop l.index l.branches) ≡ l.fn.out.items ++ numbered (branch_text l.functions l.order) 1 l.branches
