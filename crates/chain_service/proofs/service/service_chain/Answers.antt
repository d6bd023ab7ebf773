use Rattle.std.proofs.Common.{◌≡◌, ◌≤◌, ◌∙◌, ap, arith, length, subst, sym}
use Rattle.segment_run.specs.Segments.{functions_count, pieces_of}
use Rattle.graph_text.specs.Chains.{profiles_in}
use Rattle.policy_chains.specs.Profiled.{Profiled}
use Rattle.policy_chains.specs.Services.{pieces_at}
use Rattle.chain_service.proofs.Serving.{few_functions, few_places}
use Rattle.chain_service.proofs.Written.{can_run}
use Rattle.chain_service.proofs.service.service_chain.Goals as goal

pub chain_parts-requires-clause-few : goal.chain_parts-requires-clause-few
chain_parts-requires-clause-few c = omega (arith, ap length c.as_slice-places.ensures, few_places c.args.chain c.args.order.now c.requires.ordered)

pub in_graph-requires : goal.in_graph-requires
in_graph-requires c =
    let here : pieces_of c.in_ok-pieces.pieces.items ≡ pieces_at c.args.chain.functions c.args.order.now.positions =
    c.in_ok-pieces.ensures.pieces ∙ c.in_ok-parts.ensures ∙ ap (λ d. pieces_at d c.as_slice-places.result.now) c.as_slice-declared.ensures
    ∙ ap (pieces_at c.args.chain.functions) c.as_slice-places.ensures in
    can_run c.args.chain c.args.order.now c.args.graph (pieces_of c.in_ok-pieces.pieces.items)
    (subst (Profiled (profiles_in c.args.chain.functions c.args.order.now.positions)) (sym here)
    (c.one_piece_has_the_profiles.ensures c.args.chain.functions c.args.order.now.positions c.requires.ordered.inside)) c.requires.fits

pub new-requires-2 : goal.new-requires-2
new-requires-2 c =
    subst (λ ps. functions_count ps ≤ 64) (sym c.in_ok-pieces-2.ensures) (few_functions c.args.graph (pieces_of c.in_ok-pieces.pieces.items) c.in_ok-pieces.ensures.few)
