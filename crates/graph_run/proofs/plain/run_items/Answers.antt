use Rattle.std.proofs.Common.{rules, ◌∙◌, ap, subst}
use Rattle.std.specs.Option.{IfSome}
use Rattle.graph_run.specs.Counting.{RaisesUpTo}
use Rattle.graph_run.specs.Packets.{packets_taken}
use Rattle.graph_run.specs.Running.{IsRow, IsRunning}
use Rattle.graph_run.proofs.Bursting.{HasRunItems, items_begin, runs_on, walked_copies}
use Rattle.graph_run.proofs.InARow.{row_left}
use Rattle.graph_run.proofs.Led.{led}
use Rattle.graph_run.proofs.Single.{wrote_back, item_taken, item_refused}
use Rattle.graph_run.proofs.plain.run_items.Goals as goal

pub loop-item-init : goal.loop-item-init
loop-item-init g c = record {
  ran = subst (λ r. HasRunItems g.F.Function.behaviour c.run.inside.graph c.args.unit c.args.chain c.args.items.now r.functions c.run.inside.functions.items 0 c.in_ok-fates.fates.items c.args.tally.now c.args.tally.now) c.run.view_is
      (items_begin g.F.Function.behaviour c.run.inside.graph c.args.unit c.args.chain c.args.items.now c.run.inside.functions.items c.in_ok-fates.fates.items c.args.tally.now c.in_ok-fates.ensures.items);
  unnoted = c.new-notes.ensures.items;
  row = subst (λ r. IfSome c.run.inside.row (IsRow g.F.Function.behaviour r.functions)) c.run.view_is c.run.invariant.1;
}

pub returns-in_err-run_item-clause-refused : goal.returns-in_err-run_item-clause-refused
returns-in_err-run_item-clause-refused g c = let within = subst (λ r. RaisesUpTo (walked_copies g.F.Function.behaviour r.graph.stages c.args.run.functions (packets_taken c.args.unit c.args.chain c.args.items.now)) c.args.tally.now c.run_item.new.tally) c.run.view_is (item_refused g.F.Function.behaviour c.run.inside.graph c.args.unit c.args.chain c.args.items.now c.args.run.functions c.loop-item.functions.items c.deref_mut.result.now c.loop-item.item-index c.loop-item.fates.items c.args.tally.now c.loop-item.tally c.run_item.new.tally c.item-item.result
    c.packets_walk_in_a_row.ensures.fates c.packets_walk_in_a_row.ensures.functions c.packets_walk_in_a_row.ensures.count c.loop-item.invariant.ran c.loop-item-test.true c.item-item.is c.deref_mut.ensures.value c.in_err-run_item.ensures.refused) in search rules

pub loop-item-preserved : goal.loop-item-preserved
loop-item-preserved g c = record {
  ran = item_taken g.F.Function.behaviour c.run.inside.graph c.args.unit c.args.chain c.args.items.now c.args.run.functions c.loop-item.functions.items c.deref_mut.result.now c.run_item.new.functions _ c.loop-item.item-index c.loop-item.fates.items _ c.args.tally.now c.loop-item.tally c.run_item.new.tally c.item-item.result
      c.packets_walk_in_a_row.ensures.fates c.packets_walk_in_a_row.ensures.functions c.packets_walk_in_a_row.ensures.count g.met.F.Function.keeps c.loop-item.invariant.ran c.loop-item-test.true c.item-item.is c.deref_mut.ensures.value (wrote_back _ c.run_item.new.functions _ (c.run_item.auto.functions ∙ c.deref_mut.ensures.len)) c.in_ok-run_item.ensures.functions c.in_ok-run_item.ensures.fates c.in_ok-run_item.ensures.counted;
  unnoted = c.in_ok-run_item.ensures.settled;
  row = c.loop-item.invariant.row;
}

pub returns-clause-leads : goal.returns-clause-leads
returns-clause-leads g c = led g.F.Function.behaviour c.args.run c.run.inside.graph c.args.unit c.args.chain c.args.items.now c.loop-item.functions.items c.loop-item.item-index c.loop-item.fates.items c.args.tally.now c.loop-item.tally g.met.F.Function.keeps
    c.packets_walk_in_a_row.ensures.within (ap (λ r. r.graph) c.run.view_is) c.loop-item-test.false c.loop-item.invariant.ran

pub invariant_of-run : goal.invariant_of-run
invariant_of-run g c =
    let same = c.loop-item.invariant.ran.profiles in
    let first = subst (λ r. IsRunning g.F.Function.behaviour r.functions c.run.inside.graph) c.run.view_is c.run.invariant.0 in (
      runs_on g.F.Function.behaviour c.run.inside.graph c.args.run.functions c.loop-item.functions.items first same,
      row_left g.F.Function.behaviour c.args.run.functions c.loop-item.functions.items _ same c.loop-item.invariant.row,
    )
