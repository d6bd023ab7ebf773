use Rattle.std.proofs.Common.{◌≡◌, List, [], ◌∷◌, ◌++◌, length, map, inl, inr, ap, ◌∙◌, sym, subst, arith, rules}
use Rattle.std.specs.Prelude.{◌⊎◌, All}
use Rattle.std.specs.Vec.Iter.{into_iter_items}
use Rattle.std.specs.Iterator.Adapters.{zip_first, zip_second}
use Rattle.policy_text.specs.Names.{names_at}
use Rattle.policy_text.specs.declared.policy.ChainPolicy.{ChainPolicy}
use Rattle.chain_service.specs.Opening.{IsOpeningChain, pieces_in}
use Rattle.policy_chains.specs.Services.{in_graph, pieces_at}
use Rattle.chain_service.specs.declared.service.ServiceChain.{ServiceChain}
use Rattle.chain_service.proofs.Chaining.{IsUnderway, goes_on_with, next_underway, counted_on, ends, all_declared, all_names, all_pieces}
use Rattle.chain_service.proofs.service.service_chains.Goals as goal

pub service_chain-requires-clause-ordered : goal.service_chain-requires-clause-ordered
service_chain-requires-clause-ordered c =
    let s = c.in-Some.ensures.steps in
    (next_underway c.args.chains c.args.orders c.args.graphs.items c.chains.running.items _ _ _ _ c.in-Some.chain c.in-Some.order c.in-Some.graph c.in-Some.made
    (into_iter_items (zip_first (zip_first (zip_first c.next.new.self)))) (into_iter_items (zip_second (zip_first (zip_first c.next.new.self)))) (into_iter_items (zip_second (zip_first c.next.new.self))) (into_iter_items (zip_second c.next.new.self))
    c.chains.invariant.underway (record { chain_next = s.0.0.0.0; order_next = s.0.0.1.0; graph_next = s.0.1.0; made_next = s.1.0 })).ordered.0

pub service_chain-requires-clause-fits : goal.service_chain-requires-clause-fits
service_chain-requires-clause-fits c =
    let s = c.in-Some.ensures.steps in
    (next_underway c.args.chains c.args.orders c.args.graphs.items c.chains.running.items _ _ _ _ c.in-Some.chain c.in-Some.order c.in-Some.graph c.in-Some.made
    (into_iter_items (zip_first (zip_first (zip_first c.next.new.self)))) (into_iter_items (zip_second (zip_first (zip_first c.next.new.self)))) (into_iter_items (zip_second (zip_first c.next.new.self))) (into_iter_items (zip_second c.next.new.self))
    c.chains.invariant.underway (record { chain_next = s.0.0.0.0; order_next = s.0.0.1.0; graph_next = s.0.1.0; made_next = s.1.0 })).fit.0

pub chains-preserved : goal.chains-preserved
chains-preserved c =
    let s = c.in-Some.ensures.steps in
    let made = c.in_ok-service_chain in
    let chain = made.field-0 in
    let chains = into_iter_items (zip_first (zip_first (zip_first c.next.new.self))) in
    let orders = into_iter_items (zip_second (zip_first (zip_first c.next.new.self))) in
    let graphs = into_iter_items (zip_second (zip_first c.next.new.self)) in
    let left = into_iter_items (zip_second c.next.new.self) in
    let pushed : c.push.new.self.items ≡ c.chains.running.items ++ chain ∷ [] = search rules in
    let names : chain.names ≡ names_at chain.declared.functions c.in-Some.order.positions =
    made.ensures.names ∙ ap (λ (d : ChainPolicy). names_at d.functions c.in-Some.order.positions) (sym made.ensures.declared) in
    let pieces : pieces_in chain ≡ in_graph c.in-Some.graph (pieces_at chain.declared.functions c.in-Some.order.positions) =
    made.ensures.pieces ∙ ap (λ (d : ChainPolicy). in_graph c.in-Some.graph (pieces_at d.functions c.in-Some.order.positions)) (sym made.ensures.declared) in
    let next = goes_on_with c.args.chains c.args.orders c.args.graphs.items c.chains.running.items _ _ _ _ c.in-Some.order c.in-Some.graph c.in-Some.made chains orders graphs left chain c.chains.invariant.underway
    (record { chain_next = cc (s.0.0.0.0, made.ensures.declared); order_next = s.0.0.1.0; graph_next = s.0.1.0; made_next = s.1.0 }) names pieces made.ensures.opening in
    record {
      can_next = search rules;
      is_finite = search rules;
      underway = subst (λ (r : List ServiceChain). IsUnderway c.args.chains c.args.orders c.args.graphs.items r chains orders graphs left) (sym pushed) next;
      chains = counted_on _ _ c.in-Some.chain c.chains.invariant.chains s.0.0.0.0 s.0.0.0.1;
      orders = counted_on _ _ c.in-Some.order c.chains.invariant.orders s.0.0.1.0 s.0.0.1.1;
      graphs = counted_on _ _ c.in-Some.graph c.chains.invariant.graphs s.0.1.0 s.0.1.1;
      made = counted_on _ _ c.in-Some.made c.chains.invariant.made s.1.0 s.1.1;
    }

pub returns : goal.returns
returns c =
    let chains = into_iter_items (zip_first (zip_first (zip_first c.chains.chain-iterator))) in
    let orders = into_iter_items (zip_second (zip_first (zip_first c.chains.chain-iterator))) in
    let graphs = into_iter_items (zip_second (zip_first c.chains.chain-iterator)) in
    let left = into_iter_items (zip_second c.chains.chain-iterator) in
    let ended : (((length chains ≡ 0) ⊎ (length orders ≡ 0)) ⊎ (length graphs ≡ 0)) ⊎ (length left ≡ 0) = elim c.in-None.ensures.steps [
      | inl a ↦ inl (elim a.1 [
        | inl b ↦ inl (elim b.1 [
          | inl d ↦ inl (omega (arith, c.chains.invariant.chains.count, d.1.0))
          | inr d ↦ inr (omega (arith, c.chains.invariant.orders.count, d.1.0))
        ])
        | inr b ↦ inr (omega (arith, c.chains.invariant.graphs.count, b.1.0))
      ])
      | inr a ↦ inr (omega (arith, c.chains.invariant.made.count, a.1.0))
    ] in
    let under = ends c.args.chains c.args.orders c.args.graphs.items c.chains.running.items chains orders graphs left c.chains.invariant.underway ended in
    record {
      declared = ap (λ (r : List ServiceChain). map (λ c. c.declared) r) c.new.ensures ∙ all_declared _ _ _ _ under;
      names = ap (λ (r : List ServiceChain). map (λ c. c.names) r) c.new.ensures ∙ all_names _ _ _ _ under;
      pieces = ap (λ (r : List ServiceChain). map pieces_in r) c.new.ensures ∙ all_pieces _ _ _ _ under;
      opening = subst (λ (r : List ServiceChain). All IsOpeningChain r) (sym c.new.ensures) under.opening;
    }
