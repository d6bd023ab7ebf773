use Rattle.std.proofs.Common.{◌≡◌, All, ap, arith, length}
use Rattle.std.proofs.lemmas.List.Elements.{All-map}
use Rattle.burst_walk.specs.Leading.{IsWritable}
use Rattle.burst_walk.proofs.Queues.{weaving_begins, weaving_ends, weaving_goes_on, written_back}
use Rattle.burst_walk.proofs.weave.weave.Goals as goal

pub items-init : goal.items-init
items-init c = weaving_begins c.args.items.now _ _ _ c.in_ok-rows.ensures (All-map (All IsWritable) (λ v. v.items) c.args.rows.items c.requires.writable) c.new-fates.ensures.items

pub items-preserved : goal.items-preserved
items-preserved c =
    let lent : length c.deref_mut.result.now ≡ length c.items.rows.items = ap length c.deref_mut.ensures.value in
    weaving_goes_on (λ q. q.rest.items) (λ v. v.items) c.args.items.now c.args.rows.items c.items.rows.items c.deref_mut.result.now c.next_fate.new.rows _ c.items.fates.items c.push.new.self.items c.items.item-index c.item-item.result
    c.next_fate.result c.items.invariant c.items-test.true c.item-item.is c.requires.classes c.deref_mut.ensures.value c.next_fate.ensures.next c.next_fate.ensures.left
    (written_back c.items.rows.len c.next_fate.new.rows c.items.rows.items (omega (arith, c.next_fate.auto.rows)) c.items.rows.ok.0) c.in_ok-push.ensures.items

pub returns-clause-woven : goal.returns-clause-woven
returns-clause-woven c = weaving_ends _ _ _ _ c.items.item-index c.items.invariant c.items-test.false
