use Rattle.std.proofs.Common.{All, sym}
use Rattle.node_run.specs.Nodes.{is_ready}
use Rattle.node_run.specs.Starts.{crew_of}
use Rattle.node_run.proofs.Wiring.{none_left}
use Rattle.node_run.proofs.Running.{started_none, started_more, started_all}
use Rattle.node_run.proofs.run.start_all.Goals as goal

pub loop-crew-init : goal.loop-crew-init
loop-crew-init g c = (tt, tt, started_none crew_of (All (is_ready g.F.BranchWork.kit g.F.BranchWork.may)) _ _ _ _ c.into_iter-crew-iterator.ensures.into_iter_gives.0 c.requires.empty c.requires.ready c.requires.room, λ copies f. f)

pub start-left-requires-clause-first : goal.start-left-requires-clause-first
start-left-requires-clause-first g c κs within = (c.requires.first.0, c.loop-crew.invariant.3 c.requires.first.0 c.requires.first.1)

pub loop-crew-preserved : goal.loop-crew-preserved
loop-crew-preserved g c = (
  tt,
  tt,
  started_more crew_of (All (is_ready g.F.BranchWork.kit g.F.BranchWork.may)) _ _ _ _ _ c.in-Some.crew _ _ _ c.loop-crew.invariant.2 c.in-Some.ensures.steps.0 c.start-left.ensures.crew c.push_reserved.ensures.items c.push_reserved.ensures.capacity,
  λ copies f. c.start-left.ensures.first copies (c.loop-crew.invariant.3 copies f),
)

pub returns-clause-first : goal.returns-clause-first
returns-clause-first g c = λ copies f. c.loop-crew.invariant.3 copies f

pub returns-clause-crews : goal.returns-clause-crews
returns-clause-crews g c = started_all crew_of (All (is_ready g.F.BranchWork.kit g.F.BranchWork.may)) _ _ _ _ c.loop-crew.invariant.2 (none_left _ _ c.in-None.ensures.steps.0 (sym c.loop-crew.crew-iterator.rest.ok.0))
