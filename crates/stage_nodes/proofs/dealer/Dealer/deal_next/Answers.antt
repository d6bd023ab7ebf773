use Rattle.std.proofs.Common.{◌∙◌, sym}
use Rattle.stage_nodes.specs.Streams.{of_merged}
use Rattle.stage_nodes.proofs.Dealing.{has_more, dealer_turn, given_fits, given_counted, given_ample, dealer_goes_on}
use Rattle.stage_nodes.proofs.dealer.Dealer.deal_next.Goals as goal

pub next-packet-requires : goal.next-packet-requires
next-packet-requires g c = record { more = has_more _ _ _ _ c.requires.ready }

pub give_parts-requires : goal.give_parts-requires
give_parts-requires g c =
    let t = dealer_turn _ _ _ _ c.requires.ready in record {
      versions_due = t.owing;
      some = t.base.some;
      base_due = t.base.owing;
      fits = given_fits _ _ _ _ (of_merged c.next-packet.result) _ _ _ c.dealing-given.result t c.next-packet.ensures.next c.dealing-given.ensures;
      stays = λ w. sym c.is_short.ensures ∙ given_ample _ (of_merged c.next-packet.result) _ _ _ c.dealing-given.result c.dealing-given.ensures w;
    }

pub returns-clause-at : goal.returns-clause-at
returns-clause-at g c = λ n total at. dealer_goes_on _ _ _ _ _ _ _ _ _ _ _ _ _ (of_merged c.next-packet.result) at c.next-packet.ensures.next c.next-packet.ensures.left c.give_parts.ensures.versions c.give_parts.ensures.bases
    (given_counted _ (of_merged c.next-packet.result) _ _ _ _ _ c.dealing-given.result c.is_short.ensures c.dealing-given.ensures c.give_parts.ensures.short)

pub returns-clause-ample : goal.returns-clause-ample
returns-clause-ample g c w = (given_counted _ (of_merged c.next-packet.result) _ _ _ _ _ c.dealing-given.result c.is_short.ensures c.dealing-given.ensures c.give_parts.ensures.short w).ample
