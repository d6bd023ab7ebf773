use Rattle.std.proofs.Common.{◌∙◌, ap, arith, sym}
use Rattle.packet_version.specs.Tallies.{count_of}
use Rattle.stage_nodes.proofs.Dealing.{dealer_begins, dealer_done, dealer_gave}
use Rattle.stage_nodes.proofs.dealer.run_dealer.Goals as goal

pub loop-packet-init : goal.loop-packet-init
loop-packet-init g c = record { owes = λ total owes. owes; ample = λ w. w; count = omega arith }

pub turn-requires : goal.turn-requires
turn-requires g c =
    let at = c.loop-packet.invariant.owes _ (dealer_begins _ _ _ _ _ _ _ _ c.requires.due.1) in
    record { ready = (at.coming, at.due) }

pub loop-packet-preserved : goal.loop-packet-preserved
loop-packet-preserved g c = record {
  owes = λ total owes. c.turn.ensures.owes total (c.loop-packet.invariant.owes total owes);
  ample = λ w. c.loop-packet.invariant.ample (c.turn.ensures.ample w);
  count = omega (arith, c.turn.ensures.count, c.loop-packet.invariant.count);
}

pub returns : goal.returns
returns g c =
    let i = c.loop-packet.invariant in record {
      ample = λ w. i.ample (sym c.is_short.ensures ∙ w);
      counted = λ xs due w f. ap (λ t. count_of t f) c.replace-tally.ensures.value ∙ dealer_done _ c.args.dealer.now.count c.loop-packet._packet _ _ _ _ _ _ _ c.loop-packet-test.false i.count (i.owes _ (dealer_begins _ _ xs _ _ _ _ _ due)) (sym c.is_short.ensures ∙ w) f;
      versions_given = (dealer_gave _ c.args.dealer.now.count c.loop-packet._packet _ _ _ _ _ _ _ c.loop-packet-test.false i.count (i.owes _ (dealer_begins _ _ _ _ _ _ _ _ c.requires.due.1))).0;
      bases_given = (dealer_gave _ c.args.dealer.now.count c.loop-packet._packet _ _ _ _ _ _ _ c.loop-packet-test.false i.count (i.owes _ (dealer_begins _ _ _ _ _ _ _ _ c.requires.due.1))).1;
    }
