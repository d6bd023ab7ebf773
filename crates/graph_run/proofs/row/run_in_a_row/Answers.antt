use Rattle.std.proofs.Common.{rules, List, subst}
use Rattle.chain_walk.specs.declared.walk.Fate.{Fate}
use Rattle.graph_run.specs.Counting.{RaisesAll, copies_made}
use Rattle.graph_run.specs.Packets.{packets_taken}
use Rattle.graph_run.proofs.InARow.{row_there, led_back, refused_back, row_back}
use Rattle.graph_run.proofs.row.run_in_a_row.Goals as goal

pub returns-in_err-run-clause-refused : goal.returns-in_err-run-clause-refused
returns-in_err-run-clause-refused g c =
    let is = row_there g.F.Function.behaviour c.deref.result.now c.run.inside.functions.items c.in_ok-row.row c.deref.ensures.value c.in_ok-row.ensures in
    let within = refused_back g.F.Function.behaviour c.args.run c.new-run.result c.run.inside.functions.items c.run.inside.graph c.in_ok-row.row (packets_taken c.args.unit c.args.chain c.args.items.now) c.args.tally.now c.run_items.new.tally
    c.run.view_is c.new-run.ensures is c.in_err-run.ensures.refused in search rules

pub invariant_of-run : goal.invariant_of-run
invariant_of-run g c =
    let is = row_there g.F.Function.behaviour c.deref.result.now c.run.inside.functions.items c.in_ok-row.row c.deref.ensures.value c.in_ok-row.ensures in
    row_back g.F.Function.behaviour c.new-run.result c.run.inside.functions.items c.into_parts-functions.result.0.items c.run.inside.graph c.in_ok-row.row c.into_parts-functions.result.1 (packets_taken c.args.unit c.args.chain c.args.items.now) c.args.tally.now c.run_items.new.tally c.in_ok-run.run' c.in_ok-run.fates.items
    g.met.F.Function.keeps c.new-run.ensures c.into_parts-functions.ensures.functions c.into_parts-functions.ensures.graph c.run.invariant.0 is c.into_parts-functions.ensures.running c.in_ok-run.ensures.leads

pub returns-clause-leads : goal.returns-clause-leads
returns-clause-leads g c =
    let is = row_there g.F.Function.behaviour c.deref.result.now c.run.inside.functions.items c.in_ok-row.row c.deref.ensures.value c.in_ok-row.ensures in
    let counted = subst (λ (ended : List Fate). RaisesAll (copies_made c.run.inside.graph.stages (packets_taken c.args.unit c.args.chain c.args.items.now) ended) c.run_items.new.tally c.count_copies.new.tally) c.deref-2.ensures.value (c.count_copies.ensures c.args.unit) in
    led_back g.F.Function.behaviour c.args.run c.new-run.result c.run.inside.functions.items c.into_parts-functions.result.0.items c.run.inside.graph c.in_ok-row.row (packets_taken c.args.unit c.args.chain c.args.items.now) c.args.tally.now c.run_items.new.tally c.count_copies.new.tally c.in_ok-run.run' c.in_ok-run.fates.items
    c.run.view_is c.new-run.ensures c.into_parts-functions.ensures.functions is c.in_ok-run.ensures.leads counted
