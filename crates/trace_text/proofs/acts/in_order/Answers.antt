use Rattle.std.proofs.Common.{ap, sym, subst, map, take, ◌∙◌, ◌≡◌, ◌++◌, ◌∷◌, []}
use Rattle.std.specs.Prelude.{filter_map, slice_get, slice_index_or}
use Rattle.std.proofs.lemmas.Option.{slice_get-get_or}
use Rattle.trace_text.proofs.Keeping.{one_place, plus_one}
use Rattle.trace_text.proofs.acts.in_order.Goals as goal

pub positions-preserved : goal.positions-preserved
positions-preserved c =
    let p = slice_index_or c.args.positions.now c.positions.position-index 0 in
    subst (λ n. map (λ d. d.now) c.push_decl.new.order.items ≡ filter_map (λ place. slice_get c.args.functions.now place) (take n c.args.positions.now)) (plus_one c.positions.position-index)
    (c.in_ok-push_decl.ensures ∙ ap (λ t. t ++ filter_map (λ place. slice_get c.args.functions.now place) (p ∷ [])) c.positions.invariant
    ∙ sym (one_place c.args.functions.now c.args.positions.now c.positions.position-index p (slice_get-get_or c.args.positions.now c.positions.position-index 0 c.positions-test.true)))
