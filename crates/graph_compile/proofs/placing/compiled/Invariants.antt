use Rattle.std.proofs.Common.{◌≡◌, ◌≤◌, length}
use Rattle.graph_compile.proofs.Drafts.{rest_placed}
use Rattle.graph_compile.specs.Stages.{nothing_placed}
use Rattle.graph_compile.proofs.placing.compiled.Given as goal

-- the functions so far, and those of the rest; each opens at most one branch
abbrev pub invariant-chain : goal.invariant-chain
invariant-chain l = record {
  rest : rest_placed l.profiles l.draft l.index ≡ rest_placed l.profiles nothing_placed 0;
  few : length l.draft.branches ≤ l.index;
}
