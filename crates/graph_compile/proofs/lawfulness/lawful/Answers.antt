use Rattle.std.proofs.Common.{subst, List, IsTrue, ◌↔◌}
use Rattle.graph_compile.specs.Judging.{AreJudged}
use Rattle.graph_compile.specs.declared.graph.Stage.{Stage}
use Rattle.graph_compile.proofs.FiveFacts.{lawful-from_staged, staged-from_lawful}
use Rattle.graph_compile.proofs.Judged.{lawful-answer}
use Rattle.graph_compile.proofs.lawfulness.lawful.Goals as goal

pub returns-clause-facts : goal.returns-clause-facts
returns-clause-facts c =
    let P : List Stage → Type 0 = λ ss. IsTrue c.are_lawful.result ↔ AreJudged c.args.profiles.now ss in
    lawful-answer c.are_lawful.result c.args.graph.now c.args.profiles.now (subst P c.as_slice.ensures c.are_lawful.ensures)

pub returns-clause-staged : goal.returns-clause-staged
returns-clause-staged c =
    let P : List Stage → Type 0 = λ ss. IsTrue c.are_lawful.result ↔ AreJudged c.args.profiles.now ss in
    let facts = lawful-answer c.are_lawful.result c.args.graph.now c.args.profiles.now (subst P c.as_slice.ensures c.are_lawful.ensures) in
    λ full. (λ e. staged-from_lawful c.args.graph.now c.args.profiles.now full (facts.0 e), λ s. facts.1 (lawful-from_staged c.args.graph.now c.args.profiles.now s))
