use Rattle.std.proofs.Common.{◌∙◌, [], ◌∷◌, ap, arith, map, subst}
use Rattle.graph_run.specs.Counting.{RaisesAll}
use Rattle.graph_run.specs.Packets.{packets_taken}
use Rattle.piece_walk.specs.Pieces.{Graph}
use Rattle.piece_walk.specs.Rejoining.{still_going}
use Rattle.segment_run.specs.Counting.{copies_through}
use Rattle.segment_run.specs.Rewriting.{without_frame}
use Rattle.segment_run.specs.Segments.{piece_of}
use Rattle.segment_run.proofs.InPlace.{alone_goes_on, err_always}
use Rattle.segment_run.proofs.Raising.{all_made}
use Rattle.segment_run.proofs.run.lead_graph_on.Goals as goal

pub returns-clause-goes : goal.returns-clause-goes
returns-clause-goes g c =
    let packets = packets_taken c.args.unit c.args.chain c.args.burst.now.items in
    let is = c.in_ok-next.ensures.packets c.args.unit ∙ ap (λ l. still_going (packets_taken c.args.unit c.args.chain l) c.args.ended.items) c.as_slice.ensures in
    alone_goes_on g.F.Function.behaviour packets c.args.before c.args.ended.items (Graph c.args.run.graph.stages c.args.run.functions) (piece_of c.in_ok-piece.piece) _ c.in_ok-stays.stays.items c.in_ok-piece.fates.items c.in_ok-all.all.items c.args.tally.now c.lead_graph.new.tally
    (c.in_ok-stays.ensures ∙ ap (map without_frame) c.deref.ensures.value) is c.in_ok-piece.ensures.goes c.in_ok-all.ensures

pub returns-in_err-all-clause-refused : goal.returns-in_err-all-clause-refused
returns-in_err-all-clause-refused g c =
    let packets = packets_taken c.args.unit c.args.chain c.args.burst.now.items in
    let is = c.in_ok-next.ensures.packets c.args.unit ∙ ap (λ l. still_going (packets_taken c.args.unit c.args.chain l) c.args.ended.items) c.as_slice.ensures in
    let copies = copies_through g.F.Function.behaviour (Graph c.args.run.graph.stages c.args.run.functions ∷ []) in
    err_always _ _ (all_made (copies (still_going packets c.args.ended.items)) (copies (still_going packets c.args.ended.items)) c.args.tally.now c.lead_graph.new.tally (λ f. omega arith)
    (subst (λ ps. RaisesAll (copies ps) c.args.tally.now c.lead_graph.new.tally) is c.in_ok-piece.ensures.goes.counted))
