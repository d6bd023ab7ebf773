use Rattle.std.proofs.Common.{◌≡◌, ◌∷◌, ◌++◌, [], List, length, map, inl, inr, ap, ◌∙◌, sym, subst, arith, rules}
use Rattle.std.specs.Prelude.{◌⊎◌, All}
use Rattle.std.specs.Vec.Iter.{into_iter_items}
use Rattle.std.specs.Iterator.Adapters.{zip_first, zip_second}
use Rattle.plain_chains.specs.declared.chain.PlainChain.{PlainChain}
use Rattle.plain_chains.proofs.Chaining.{IsUnderway, goes_on_with, next_underway, counted_on, ends, all_declared, all_ordered}
use Rattle.plain_chains.proofs.service.plain_chains.Goals as goal

pub plain_chain-requires-clause-ordered : goal.plain_chain-requires-clause-ordered
plain_chain-requires-clause-ordered c =
    let s = c.in-Some.ensures.steps in
    (next_underway c.args.chains c.args.orders c.chains.plain.items _ _ _ c.in-Some.chain c.in-Some.order c.in-Some.made
    (into_iter_items (zip_first (zip_first c.next.new.self))) (into_iter_items (zip_second (zip_first c.next.new.self))) (into_iter_items (zip_second c.next.new.self))
    c.chains.invariant.underway (record { chain_next = s.0.0.0; order_next = s.0.1.0; made_next = s.1.0 })).ordered.0

pub chains-preserved : goal.chains-preserved
chains-preserved c =
    let s = c.in-Some.ensures.steps in
    let made = c.in_ok-plain_chain in
    let chain = made.field-0 in
    let chains = into_iter_items (zip_first (zip_first c.next.new.self)) in
    let orders = into_iter_items (zip_second (zip_first c.next.new.self)) in
    let left = into_iter_items (zip_second c.next.new.self) in
    let pushed : c.push.new.self.items ≡ c.chains.plain.items ++ chain ∷ [] = search rules in
    let next = goes_on_with c.args.chains c.args.orders c.chains.plain.items _ _ _ c.in-Some.made chains orders left chain c.chains.invariant.underway
    (record { chain_next = cc (s.0.0.0, made.ensures.declared); order_next = cc (s.0.1.0, made.ensures.order); made_next = s.1.0 }) made.ensures.ready in
    record {
      can_next = search rules;
      is_finite = search rules;
      underway = subst (λ (r : List PlainChain). IsUnderway c.args.chains c.args.orders r chains orders left) (sym pushed) next;
      chains = counted_on _ _ c.in-Some.chain c.chains.invariant.chains s.0.0.0 s.0.0.1;
      orders = counted_on _ _ c.in-Some.order c.chains.invariant.orders s.0.1.0 s.0.1.1;
      made = counted_on _ _ c.in-Some.made c.chains.invariant.made s.1.0 s.1.1;
    }

pub returns : goal.returns
returns c =
    let chains = into_iter_items (zip_first (zip_first c.chains.chain-iterator)) in
    let orders = into_iter_items (zip_second (zip_first c.chains.chain-iterator)) in
    let left = into_iter_items (zip_second c.chains.chain-iterator) in
    let ended : ((length chains ≡ 0) ⊎ (length orders ≡ 0)) ⊎ (length left ≡ 0) = elim c.in-None.ensures.steps [
      | inl a ↦ inl (elim a.1 [
        | inl b ↦ inl (omega (arith, c.chains.invariant.chains.count, b.1.0))
        | inr b ↦ inr (omega (arith, c.chains.invariant.orders.count, b.1.0))
      ])
      | inr a ↦ inr (omega (arith, c.chains.invariant.made.count, a.1.0))
    ] in
    let under = ends c.args.chains c.args.orders c.chains.plain.items chains orders left c.chains.invariant.underway ended in
    record {
      declared = all_declared _ _ _ under;
      orders = all_ordered _ _ _ under;
      ready = under.ready;
    }
