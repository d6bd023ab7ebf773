use Rattle.std.proofs.Common.{◌≡◌, ◌∙◌, sym, subst, IfOk, arith, ◌+◌}
use Rattle.graph_compile.specs.declared.graph.Graph.{Graph}
use Rattle.graph_compile.proofs.Drafts.{few_placed, rest_placed-next, finished_rest}
use Rattle.graph_compile.proofs.placing.compiled.Goals as goal

pub chain-preserved : goal.chain-preserved
chain-preserved c =
    let chain = c.args.profiles.now in
    let is = c.in_ok-draft.ensures in
    record {
      rest = rw is (sym (rest_placed-next chain c.chain.draft c.chain.index c.chain-test.true) ∙ c.chain.invariant.rest);
      few = rw is (omega (arith, few_placed chain c.chain.draft (c.chain.index + 1), c.chain.invariant.few));
    }

pub returns : goal.returns
returns c =
    let chain = c.args.profiles.now in
    let same = finished_rest chain c.chain.draft c.chain.index c.chain-test.false c.chain.invariant.rest in
    let P : Graph → Type 0 = λ g. IfOk c.finished.result (λ graph. graph ≡ g) in
    subst P same c.finished.ensures
