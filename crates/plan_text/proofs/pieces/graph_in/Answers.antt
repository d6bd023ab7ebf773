use Rattle.std.proofs.Common.{rules, ◌≡◌, length, arith}
use Rattle.std.proofs.lemmas.List.{length-map}
use Rattle.plan_text.specs.Plan.{profile_in}
use Rattle.plan_text.proofs.Staging.{few_stages}
use Rattle.plan_text.proofs.pieces.graph_in.Goals as goal

pub returns-clause-few : goal.returns-clause-few
returns-clause-few c =
    let few = few_stages c.in_ok-graph.graph c.deref.result.now c.in_ok-graph.ensures.full c.in_ok-graph.ensures.staged in
    let many : length c.deref.result.now ≡ length c.args.piece.now = (let value = c.deref.ensures.value in let profiles = c.in_ok-profiles.ensures in let same = length-map c.args.piece.now (profile_in c.args.functions.now) in search rules) in
    omega (arith, few, many)
