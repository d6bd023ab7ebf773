use Rattle.stage_nodes.proofs.Dealing.{dealer_at, dealer_same, dealer_some}
use Rattle.stage_nodes.proofs.dealer.Dealer.turn.Goals as goal

pub deal_next-requires : goal.deal_next-requires
deal_next-requires g c = record { ready = dealer_some _ _ _ _ _ _ c.if-self-eq0.false c.requires.ready.1 }

pub returns-clause-owes : goal.returns-clause-owes
returns-clause-owes g c total owes =
    let e = c.deal_next.ensures in
    dealer_same _ _ _ _ total _ _ _ _ _ e.parts e.count (e.at _ total (dealer_at _ _ total _ _ _ _ _ _ c.if-self-eq0.false c.replace-tally.ensures.value owes))
