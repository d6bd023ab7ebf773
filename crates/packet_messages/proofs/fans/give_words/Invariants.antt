use Rattle.std.proofs.Common.{◌≡◌}
use Rattle.packet_messages.specs.Messages.{turned}
use Rattle.packet_messages.proofs.Sweeps.{swept}
use Rattle.packet_messages.proofs.fans.give_words.Given as goal

abbrev pub invariant-loop-index : goal.invariant-loop-index
invariant-loop-index g l = l.list ≡ swept turned l.index l.fn.list
