use Rattle.std.proofs.Common.{◌∙◌, sym, ap, subst}
use Rattle.std.specs.Prelude.{All}
use Rattle.flow_shards.specs.Flows.{flows_from}
use Rattle.flow_shards.specs.Sharding.{AreRising, HasFittingFlow, ShardsView}
use Rattle.flow_shards.proofs.Feeding.{parted_fed, lines_fed}
use Rattle.flow_shards.proofs.shards.Shards.feed.Goals as goal

pub invariant_of-result : goal.invariant_of-result
invariant_of-result g c =
    parted_fed c.args.unit c.args.burst.now.items c.self.inside.last c.last_number.result c.self.inside.tables.items c.in_ok-tables.tables.items c.deref.result.now c.self.invariant
    c.in_ok-tables.ensures.count c.in_ok-tables.ensures.each (c.deref.ensures.value ∙ c.in_ok-sights.ensures.seen)
    (subst (λ (v : ShardsView). AreRising v.last c.args.burst.now.items) (sym c.self.view_is) c.requires.rising) c.last_number.ensures
    (subst (All HasFittingFlow) (sym c.deref.ensures.value) c.in_ok-sights.ensures.fits)

pub returns-clause-lines : goal.returns-clause-lines
returns-clause-lines g c =
    lines_fed c.args.unit c.args.burst.now.items c.self.inside.last c.last_number.result c.self.inside.tables.items c.in_ok-tables.tables.items c.deref.result.now c.self.invariant
    c.in_ok-tables.ensures.count c.in_ok-tables.ensures.each (c.deref.ensures.value ∙ c.in_ok-sights.ensures.seen)
    (subst (λ (v : ShardsView). AreRising v.last c.args.burst.now.items) (sym c.self.view_is) c.requires.rising) c.last_number.ensures
    ∙ ap (λ (v : ShardsView). flows_from c.args.unit v.lines c.args.burst.now.items) c.self.view_is
