use Rattle.std.proofs.Common.{ap, sym, refl, ◌∙◌, ◌++◌, [], ◌∷◌}
use Rattle.chain_walk.specs.declared.walk.Fate.{Fate}
use Rattle.graph_run.specs.Packets.{packet_of, packets_taken}
use Rattle.piece_walk.specs.Rejoining.{still_going}
use Rattle.segment_run.proofs.GoingOn.{adds_copy}
use Rattle.segment_run.proofs.Rejoining.{adds_none}
use Rattle.segment_run.proofs.going.add_going.Goals as goal

pub returns-in-Gone-clause-packets : goal.returns-in-Gone-clause-packets
returns-in-Gone-clause-packets c = λ unit. adds_none unit c.args.chain c.args.next.now.items c.args.next.now.items c.args.item.now c.in-Gone.field-0 refl
    ∙ ap (λ (fate : Fate). packets_taken unit c.args.chain c.args.next.now.items ++ still_going (packet_of unit c.args.item.now ∷ []) (fate ∷ [])) (sym c.in-Gone.is)

pub returns-in_ok-push-in-Out-clause-packets : goal.returns-in_ok-push-in-Out-clause-packets
returns-in_ok-push-in-Out-clause-packets c = λ unit.
    adds_copy unit c.args.chain c.args.next.now.items c.push.new.self.items c.args.item.now _ c.args.fate c.in-Out.frame c.in_ok-push-in-Out.ensures.items refl refl refl refl c.in-Out.is
