use Rattle.std.proofs.Common.{[]}
use Rattle.graph_run.specs.Packets.{packets_taken}
use Rattle.segment_run.specs.Rewriting.{rewritten}
use Rattle.segment_run.proofs.Alone.{whole_goes}
use Rattle.segment_run.proofs.Leading.{same_out, whole_within}
use Rattle.segment_run.proofs.run.lead_end.Goals as goal

pub returns-clause-goes : goal.returns-clause-goes
returns-clause-goes g c = λ old.
    let ended = same_out (rewritten c.args.end) c.args.unit c.args.chain c.as_slice.result.now c.args.burst.now.items c.in_ok-fates.fates.items c.as_slice.ensures (c.in_ok-fates.ensures c.args.unit) in
    whole_goes g.F.Function.behaviour (packets_taken c.args.unit c.args.chain c.args.burst.now.items) (rewritten c.args.end) old c.in_ok-fates.fates.items ended

pub returns-clause-few : goal.returns-clause-few
returns-clause-few g c = whole_within g.F.Function.behaviour (packets_taken c.args.unit c.args.chain c.args.burst.now.items) (rewritten c.args.end) [] [] _ c.in_ok-fates.fates.items (returns-clause-goes g c [])
