use Rattle.std.proofs.Common.{◌∙◌, sym, subst, arith}
use Rattle.std.specs.Prelude.{IfOk}
use Rattle.graph_run.specs.Packets.{packets_taken}
use Rattle.segment_run.specs.Segments.{GoesThrough, pieces_of}
use Rattle.segment_run.proofs.Through.{none_left}
use Rattle.segment_run.proofs.run.run_pieces.Goals as goal

pub returns-in-None-clause-goes : goal.returns-in-None-clause-goes
returns-in-None-clause-goes g c =
    let none = none_left c.into_iter-left.result.rest.items (omega (arith, c.into_iter-left.result.rest.ok.0, c.in-None.ensures.cases.0)) in
    let packets = packets_taken c.args.unit c.args.chain c.args.burst.now.items in
    subst (λ l. IfOk c.pass_all.result (λ ran. GoesThrough g.F.Function.behaviour (pieces_of l) packets c.args.tally.now c.args.tally.now (pieces_of ran.0.items) ran.1.items)) (sym (sym c.into_iter-left.ensures.rest ∙ none)) (c.pass_all.ensures c.args.tally.now)
