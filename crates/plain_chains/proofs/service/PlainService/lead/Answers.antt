use Rattle.std.proofs.Common.{◌∙◌, None, Some, ap, sym}
use Rattle.chain_walk.specs.declared.walk.Fate.TheVariants.{Out}
use Rattle.traced_run.specs.Telling.{with_acts}
use Rattle.traced_walk.specs.Ways.{Way}
use Rattle.plain_chains.specs.declared.chain.PlainChain.{PlainChain}
use Rattle.plain_chains.proofs.Leading.{class_told, class_within, leads_nowhere, leads_through, nothing_added, table_stays, way_through, way_untaken}
use Rattle.plain_chains.proofs.service.PlainService.lead.Goals as goal

pub returns-in_default-clause-class : goal.returns-in_default-clause-class
returns-in_default-clause-class g c =
    let is = class_told c.args.unit c.args.packet.now c.args.self.now c.self.inside.classes c.self.inside.chains.items c.bytes.result.now c.class.result None c.self.invariant (sym c.self.view_is) c.class.ensures c.bytes.ensures
    c.in_default.is in
    let way = way_untaken c.args.unit c.args.packet.now c.args.self.now is in
    ap (λ (w : Way). w.class) way

pub returns-in_default-clause-fate : goal.returns-in_default-clause-fate
returns-in_default-clause-fate g c =
    let is = class_told c.args.unit c.args.packet.now c.args.self.now c.self.inside.classes c.self.inside.chains.items c.bytes.result.now c.class.result None c.self.invariant (sym c.self.view_is) c.class.ensures c.bytes.ensures
    c.in_default.is in
    let way = way_untaken c.args.unit c.args.packet.now c.args.self.now is in
    ap Out (c.in_ok-frame.ensures) ∙ ap (λ (w : Way). w.fate) way

pub returns-in_default-clause-acts : goal.returns-in_default-clause-acts
returns-in_default-clause-acts g c =
    let is = class_told c.args.unit c.args.packet.now c.args.self.now c.self.inside.classes c.self.inside.chains.items c.bytes.result.now c.class.result None c.self.invariant (sym c.self.view_is) c.class.ensures c.bytes.ensures
    c.in_default.is in
    let way = way_untaken c.args.unit c.args.packet.now c.args.self.now is in
    nothing_added c.args.trace.now ∙ ap (λ (w : Way). with_acts c.args.trace.now w.acts) way

pub returns-in_default-clause-chains : goal.returns-in_default-clause-chains
returns-in_default-clause-chains g c =
    let is = class_told c.args.unit c.args.packet.now c.args.self.now c.self.inside.classes c.self.inside.chains.items c.bytes.result.now c.class.result None c.self.invariant (sym c.self.view_is) c.class.ensures c.bytes.ensures
    c.in_default.is in
    leads_nowhere c.args.unit c.args.packet.now c.args.self.now is

pub invariant_of-self : goal.invariant_of-self
invariant_of-self g c =
    let inside = class_within c.self.inside.classes c.self.inside.chains.items c.bytes.result.now c.in-Some.class c.class_is_the_first.ensures.within c.self.invariant (sym c.in-Some.is ∙ c.class.ensures) in
    table_stays c.self.inside.classes c.self.inside.chains.items c.in-Some.class c.index_mut-chain.result.now c.lead_chain.new.chain c.self.invariant inside
    (c.lead_chain.ensures.declared ∙ ap (λ (x : PlainChain). x.declared) c.index_mut-chain.ensures.value)

pub invariant_of-self-2 : goal.invariant_of-self-2
invariant_of-self-2 g c =
    let inside = class_within c.self.inside.classes c.self.inside.chains.items c.bytes.result.now c.in-Some.class c.class_is_the_first.ensures.within c.self.invariant (sym c.in-Some.is ∙ c.class.ensures) in
    table_stays c.self.inside.classes c.self.inside.chains.items c.in-Some.class c.index_mut-chain.result.now c.lead_chain.new.chain c.self.invariant inside
    (c.lead_chain.ensures.declared ∙ ap (λ (x : PlainChain). x.declared) c.index_mut-chain.ensures.value)

pub returns-clause-class : goal.returns-clause-class
returns-clause-class g c =
    let inside = class_within c.self.inside.classes c.self.inside.chains.items c.bytes.result.now c.in-Some.class c.class_is_the_first.ensures.within c.self.invariant (sym c.in-Some.is ∙ c.class.ensures) in
    let is = class_told c.args.unit c.args.packet.now c.args.self.now c.self.inside.classes c.self.inside.chains.items c.bytes.result.now c.class.result (Some c.in-Some.class) c.self.invariant (sym c.self.view_is)
    c.class.ensures c.bytes.ensures c.in-Some.is in
    let way = way_through c.args.unit c.args.packet.now c.args.self.now c.self.inside.chains.items c.in-Some.class c.index_mut-chain.result.now c.time.result c.in_ok-frame.frame (sym c.self.view_is) inside
    c.index_mut-chain.ensures.value is c.time.ensures c.in_ok-frame.ensures in
    ap (λ (w : Way). w.class) way

pub returns-clause-fate : goal.returns-clause-fate
returns-clause-fate g c =
    let inside = class_within c.self.inside.classes c.self.inside.chains.items c.bytes.result.now c.in-Some.class c.class_is_the_first.ensures.within c.self.invariant (sym c.in-Some.is ∙ c.class.ensures) in
    let is = class_told c.args.unit c.args.packet.now c.args.self.now c.self.inside.classes c.self.inside.chains.items c.bytes.result.now c.class.result (Some c.in-Some.class) c.self.invariant (sym c.self.view_is)
    c.class.ensures c.bytes.ensures c.in-Some.is in
    let way = way_through c.args.unit c.args.packet.now c.args.self.now c.self.inside.chains.items c.in-Some.class c.index_mut-chain.result.now c.time.result c.in_ok-frame.frame (sym c.self.view_is) inside
    c.index_mut-chain.ensures.value is c.time.ensures c.in_ok-frame.ensures in
    c.in_ok-fate.ensures.fate ∙ ap (λ (w : Way). w.fate) way

pub returns-clause-acts : goal.returns-clause-acts
returns-clause-acts g c =
    let inside = class_within c.self.inside.classes c.self.inside.chains.items c.bytes.result.now c.in-Some.class c.class_is_the_first.ensures.within c.self.invariant (sym c.in-Some.is ∙ c.class.ensures) in
    let is = class_told c.args.unit c.args.packet.now c.args.self.now c.self.inside.classes c.self.inside.chains.items c.bytes.result.now c.class.result (Some c.in-Some.class) c.self.invariant (sym c.self.view_is)
    c.class.ensures c.bytes.ensures c.in-Some.is in
    let way = way_through c.args.unit c.args.packet.now c.args.self.now c.self.inside.chains.items c.in-Some.class c.index_mut-chain.result.now c.time.result c.in_ok-frame.frame (sym c.self.view_is) inside
    c.index_mut-chain.ensures.value is c.time.ensures c.in_ok-frame.ensures in
    c.in_ok-fate.ensures.acts ∙ ap (λ (w : Way). with_acts c.args.trace.now w.acts) way

pub returns-clause-chains : goal.returns-clause-chains
returns-clause-chains g c =
    let inside = class_within c.self.inside.classes c.self.inside.chains.items c.bytes.result.now c.in-Some.class c.class_is_the_first.ensures.within c.self.invariant (sym c.in-Some.is ∙ c.class.ensures) in
    let is = class_told c.args.unit c.args.packet.now c.args.self.now c.self.inside.classes c.self.inside.chains.items c.bytes.result.now c.class.result (Some c.in-Some.class) c.self.invariant (sym c.self.view_is)
    c.class.ensures c.bytes.ensures c.in-Some.is in
    leads_through c.args.unit c.args.packet.now c.args.self.now c.self.inside.chains.items c.in-Some.class c.index_mut-chain.result.now c.time.result c.in_ok-frame.frame (sym c.self.view_is) inside
    c.index_mut-chain.ensures.value is c.time.ensures c.in_ok-frame.ensures c.lead_chain.new.chain c.lead_chain.ensures.declared c.lead_chain.ensures.order c.in_ok-fate.ensures.pieces
