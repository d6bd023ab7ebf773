use Rattle.std.proofs.Common.{◌<◌, ◌∙◌, ap, length, map, subst, sym}
use Rattle.std.specs.Prelude.{All, IfSome}
use Rattle.std.proofs.lemmas.List.{length-map}
use Rattle.service_walk.specs.Weaving.{woven}
use Rattle.burst_walk.specs.Leading.{LeadsEach, classed_items}
use Rattle.burst_walk.proofs.Bursting.{as_many_woven, burst_chains, burst_fates, classes_by_record, classes_within, packets_told, rows_many}
use Rattle.burst_walk.proofs.walk.walk_burst.Goals as goal

pub weave-requires-clause-classes : goal.weave-requires-clause-classes
weave-requires-clause-classes g c =
    subst (All (λ i. IfSome i.class (λ chain. chain < length c.in_ok-chains.rows.items))) (sym c.as_slice.ensures)
    (classes_within c.args.service.classes c.args.burst.now.items (length c.in_ok-chains.rows.items) c.class_is_the_first.ensures.within
    (rows_many c.args.service.classes c.args.service.chains (classed_items c.args.unit c.args.burst.now.items) (map (λ v. v.items) c.in_ok-chains.rows.items) (length c.in_ok-chains.rows.items) (length-map c.in_ok-chains.rows.items (λ v. v.items)) c.in_ok-chains.ensures.fates c.requires.told)
    c.requires.classed)

pub returns-clause-led : goal.returns-clause-led
returns-clause-led g c =
    subst (λ xs. LeadsEach xs 0 c.args.service.chains c.in_ok-chains.chains) (packets_told c.args.service.classes c.args.service.chains c.args.unit c.args.burst.now.items c.requires.told c.requires.classed) c.in_ok-chains.ensures.led

pub returns-clause-chains : goal.returns-clause-chains
returns-clause-chains g c = burst_chains c.args.service.classes c.args.unit c.args.burst.now.items c.args.service.chains c.in_ok-chains.chains c.fates_are_woven.ensures.chains c.requires.told c.requires.classed c.in_ok-chains.ensures.led

pub returns-clause-fates : goal.returns-clause-fates
returns-clause-fates g c =
    burst_fates c.args.service.classes c.args.unit c.args.burst.now.items c.args.service.chains (map (λ v. v.items) c.in_ok-chains.rows.items) c.in_ok-fates.fates.items c.fates_are_woven.ensures.fates c.requires.told c.requires.classed
    c.in_ok-chains.ensures.fates (c.in_ok-fates.ensures.woven ∙ ap (λ items. woven (map (λ i. i.class) items) (map (λ v. v.items) c.in_ok-chains.rows.items)) c.as_slice.ensures)

pub returns-clause-as_many : goal.returns-clause-as_many
returns-clause-as_many g c =
    ap length c.in_ok-fates.ensures.woven ∙ as_many_woven (map (λ i. i.class) c.as_slice.result.now) (map (λ v. v.items) c.in_ok-chains.rows.items)
    ∙ length-map c.as_slice.result.now (λ i. i.class) ∙ ap length c.as_slice.ensures

pub returns-clause-by_record : goal.returns-clause-by_record
returns-clause-by_record g c = classes_by_record c.args.service.classes c.args.service.chains c.args.unit c.args.burst.now.items c.requires.told c.requires.classed
