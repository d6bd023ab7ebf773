use Rattle.std.specs.Prelude.{◌∷◌}
use Rattle.graph_run.specs.Packets.{packets_taken}
use Rattle.segment_run.specs.Segments.{piece_of, pieces_of}
use Rattle.segment_run.proofs.OnTheWay.{IsOnTheWay}
use Rattle.segment_run.proofs.run.run_on.Given as goal

abbrev pub invariant-pieces : goal.invariant-pieces
invariant-pieces g l = IsOnTheWay g.F.Function.behaviour (piece_of l.fn.first ∷ pieces_of l.fn.left.rest.items) (packets_taken l.unit l.chain l.burst.items) l.fn.tally l.tally (pieces_of l.piece-iterator.rest.items) (pieces_of l.done.items) l.ended.items l.before
