use Rattle.chain_walk.specs.Counting.{quiet}
use Rattle.graph_run.proofs.NotedInStages.{StagesNoted}
use Rattle.graph_run.proofs.WayThroughStages.{IsFlowing}
use Rattle.graph_run.proofs.packet.pass_stages.Given as goal

abbrev pub invariant-loop-stage : goal.invariant-loop-stage
invariant-loop-stage g l = record {
  way : IsFlowing (quiet g.F.Function.behaviour) l.graph l.time l.frame l.fn.functions l.functions l.stage-index l.whole l.fn.tally l.tally;
  noted : StagesNoted (quiet g.F.Function.behaviour) g.F.Function.notes l.graph l.time l.frame l.fn.functions l.functions l.stage-index l.whole l.fn.notes.items l.notes.items;
}
