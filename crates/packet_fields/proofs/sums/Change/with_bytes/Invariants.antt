use Rattle.std.proofs.Common.{length}
use Rattle.packet_fields.proofs.WordSums.{IsAtWords}
use Rattle.packet_fields.proofs.sums.Change.with_bytes.Given as goal

abbrev pub invariant-words : goal.invariant-words
invariant-words l = IsAtWords l.initial.change l.change l.fn.old l.fn.new l.old_rest l.new_rest

abbrev pub decreases-words : goal.decreases-words
decreases-words l = length l.old_rest
