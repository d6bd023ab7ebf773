use Rattle.std.proofs.Common.{[], subst, sym}
use Rattle.graph_run.specs.Packets.{packets_taken}
use Rattle.segment_run.specs.Segments.{GoesThrough, pieces_of}
use Rattle.segment_run.proofs.Alone.{none_goes}
use Rattle.segment_run.proofs.Leading.{same_out}
use Rattle.segment_run.proofs.run.pass_all.Goals as goal

pub returns : goal.returns
returns g c = λ old. let packets = packets_taken c.args.unit c.args.chain c.args.burst.now.items in
    let ended = same_out (λ frame. frame) c.args.unit c.args.chain c.as_slice.result.now c.args.burst.now.items c.in_ok-fates.fates.items c.as_slice.ensures (c.in_ok-fates.ensures c.args.unit) in
    subst (λ l. GoesThrough g.F.Function.behaviour [] packets old old (pieces_of l) c.in_ok-fates.fates.items) (sym c.new.ensures.items) (none_goes g.F.Function.behaviour packets old c.in_ok-fates.fates.items ended)
