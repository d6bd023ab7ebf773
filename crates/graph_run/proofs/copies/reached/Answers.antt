use Rattle.std.proofs.Common.{◌∙◌, ap, sym}
use Rattle.graph_run.specs.Counting.{reached}
use Rattle.graph_run.proofs.Counted.{reached_out}
use Rattle.graph_run.proofs.copies.reached.Goals as goal

pub returns-in-Out : goal.returns-in-Out
returns-in-Out c = sym (ap (reached c.args.stages.now) c.in-Out.is ∙ reached_out c.args.stages.now _)
