use Rattle.graph_run.specs.Packets.{packets_taken}
use Rattle.piece_walk.specs.Pieces.{Graph}
use Rattle.segment_run.proofs.Alone.{few_within, graph_goes, graph_refused}
use Rattle.segment_run.proofs.Leading.{graph_made, on_any_err, same_sealed}
use Rattle.segment_run.proofs.run.lead_graph.Goals as goal

pub returns-clause-goes : goal.returns-clause-goes
returns-clause-goes g c =
    let all = same_sealed c.args.unit c.args.chain c.as_slice.result.now c.args.burst.now.items c.in_ok-run.fates.items c.in_ok-fates.fates.items c.as_slice.ensures (c.in_ok-fates.ensures c.args.unit) in
    graph_goes g.F.Function.behaviour (packets_taken c.args.unit c.args.chain c.args.burst.now.items) c.args.run _ c.args.tally.now c.run_piped.new.tally c.in_ok-run.fates.items c.in_ok-fates.fates.items c.in_ok-run.ensures.leads all

pub returns-clause-few : goal.returns-clause-few
returns-clause-few g c = few_within (Graph c.args.run.graph.stages c.args.run.functions) c.in_ok-fates.fates.items c.requires.few_functions (returns-clause-goes g c).within

pub returns-in_err-run-clause-refused : goal.returns-in_err-run-clause-refused
returns-in_err-run-clause-refused g c = on_any_err c.from_residual.result (graph_refused g.F.Function.behaviour (packets_taken c.args.unit c.args.chain c.args.burst.now.items) c.args.run c.args.tally.now c.run_piped.new.tally c.in_err-run.ensures.refused)

pub returns-in_err-fates-clause-refused : goal.returns-in_err-fates-clause-refused
returns-in_err-fates-clause-refused g c = on_any_err c.from_residual-in_err-fates.result (graph_made g.F.Function.behaviour (packets_taken c.args.unit c.args.chain c.args.burst.now.items) c.args.run c.args.tally.now c.run_piped.new.tally c.in_ok-run.ensures.leads.counted)
