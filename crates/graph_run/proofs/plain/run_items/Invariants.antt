use Rattle.std.specs.Prelude.{◌≡◌, []}
use Rattle.std.specs.Option.{IfSome}
use Rattle.graph_run.specs.Running.{IsRow}
use Rattle.graph_run.proofs.Bursting.{HasRunItems}
use Rattle.graph_run.proofs.plain.run_items.Given as goal

abbrev pub invariant-loop-item : goal.invariant-loop-item
invariant-loop-item g l = record {
  ran : HasRunItems g.F.Function.behaviour l.graph l.unit l.chain l.items l.fn.run.functions l.functions.items l.item-index l.fates.items l.fn.tally l.tally;
  unnoted : l.notes.items ≡ [];
  row : IfSome l.beside (IsRow g.F.Function.behaviour l.fn.run.functions);
}
