use Rattle.std.proofs.Common.{◌∙◌, ap, map}
use Rattle.graph_text.specs.Graphs.{no_graph}
use Rattle.nfp_run.proofs.Preparations.{ready_alone}
use Rattle.nfp_run.proofs.prepare.without_graphs.Goals as goal

pub returns-in-Ok-clause-ready : goal.returns-in-Ok-clause-ready
returns-in-Ok-clause-ready c =
    ready_alone c.args.judged c.new.result c.requires.ordered c.requires.made c.requires.few (c.new.ensures ∙ c.in-Ok.ensures ∙ ap (map no_graph) c.as_slice.ensures)
