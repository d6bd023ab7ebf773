use Rattle.std.proofs.Common.{◌∙◌, sym, ap}
use Rattle.std.specs.Prelude.{Err}
use Rattle.graph_text.specs.declared.fault.GraphFault.TheVariants.{NotUtf8}
use Rattle.graph_text.proofs.Whole.{whole_text, part_text}
use Rattle.graph_text.proofs.graphs.graphs_of.Goals as goal

pub returns-in-Ok : goal.returns-in-Ok
returns-in-Ok c = rw (whole_text c.args.bytes.now c.args.chains.now c.args.orders.now c.requires.short c.in-Ok.ensures.cases.1) c.graphs_of_utf8.ensures

pub returns-in-Err : goal.returns-in-Err
returns-in-Err c = part_text c.args.bytes.now c.args.chains.now c.args.orders.now _ c.requires.short c.in-Err.ensures.cases.1 ∙ ap (λ n. Err (NotUtf8 n)) (sym c.valid_up_to.ensures)
