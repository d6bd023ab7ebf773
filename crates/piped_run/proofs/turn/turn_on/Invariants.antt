use Rattle.chain_walk.specs.Counting.{quiet}
use Rattle.packet_messages.specs.Messages.{PlainMessage.Live}
use Rattle.piped_run.proofs.Noting.{OwnNoted}
use Rattle.piped_run.proofs.Staying.{StayFrom}
use Rattle.piped_run.proofs.Turns.{OwnTurn}
use Rattle.piped_run.proofs.turn.turn_on.Given as goal

abbrev pub invariant-loop-index : goal.invariant-loop-index
invariant-loop-index g l = record {
  own : OwnTurn (quiet g.F.Function.behaviour) l.positions l.fn.functions l.functions l.fn.version l.version l.index;
  noted : OwnNoted (quiet g.F.Function.behaviour) g.F.Function.notes l.item l.positions l.fn.functions l.functions l.fn.version (Live l.version) l.fn.notes.items l.notes.items l.index;
  stay : StayFrom (quiet g.F.Function.behaviour) l.fn.functions l.functions l.index;
}
