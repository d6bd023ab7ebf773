use Rattle.std.proofs.Common.{rules, ◌≡◌, ◌<◌, ◌∙◌, length, get_or, sym, ap, subst}
use Rattle.std.specs.Prelude.{All, Some, None}
use Rattle.std.proofs.lemmas.List.{append-nil}
use Rattle.std.proofs.lemmas.List.Elements.{All-push}
use Rattle.flow_shards.specs.Sharding.{HasFittingFlow}
use Rattle.flow_shards.proofs.Seeing.{seen_more}
use Rattle.flow_shards.proofs.shards.see_all.Goals.{in-Some+in_ok-push, in_default}
use Rattle.flow_shards.proofs.shards.see_all.Goals as goal

-- what was seen, with what is seen of one more packet
pub items-preserved : goal.items-preserved
items-preserved c =
    let inside : c.items.item-index < length c.args.burst.now.items = search rules in
    let at : c.item-item.result ≡ get_or c.args.burst.now.items c.items.item-index c.item-item.result = search rules in
    let so = seen_more c.args.unit c.args.burst.now.items c.items.sights.items c.items.item-index c.item-item.result in
    elim c.match-of.branch [
      | in-Some+in_ok-push w ↦
          let items = ap (λ s. s.items) w.sights-is ∙ w.in_ok-push.ensures.items in
          record {
            seen = items ∙ so (Some w.in-Some.sight) inside at c.items.invariant.seen (sym w.in-Some.is ∙ c.of.ensures.seen);
            fits = subst (All HasFittingFlow) (sym items) (All-push HasFittingFlow c.items.sights.items w.in-Some.sight c.items.invariant.fits w.in-Some.ensures.fits);
          }
      | in_default w ↦
          let items = ap (λ s. s.items) w.sights-is in
          record {
            seen = items ∙ sym (append-nil c.items.sights.items) ∙ so None inside at c.items.invariant.seen (sym w.in_default.is ∙ c.of.ensures.seen);
            fits = subst (All HasFittingFlow) (sym items) c.items.invariant.fits;
          }
    ]
